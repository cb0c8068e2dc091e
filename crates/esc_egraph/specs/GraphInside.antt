-- What contracts see of how a graph is held.
use Rattle.esc_egraph.specs.Graph.{Graph}
use Rattle.esc_egraph.specs.PartsInside.{graph_in, IsSound}
use Rattle.esc_egraph.specs.declared.graph.EGraph.TheInside.{Inside}

abbrev pub graph_of : Inside → Graph
graph_of g = graph_in g.parts

abbrev pub IsHeld : Inside → Type 0
IsHeld g = IsSound g.parts
