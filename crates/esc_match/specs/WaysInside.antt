-- Ways in which terms match nodes, and how they grow.
use Rattle.std.specs.Prelude.{ℕ, ◌==◌, if◌then◌else◌, List, [], ◌∷◌, ◌++◌, length, map, Option}
use Rattle.std.specs.Prelude.{Some, None}
use Rattle.std.specs.List.{filter, flat_map}
use Rattle.esc_term.specs.declared.term.Term.{Term}
use Rattle.esc_term.specs.declared.term.Term.TheOpen.{Term-F}
use Rattle.esc_term.specs.declared.term.Term.TheViews.{out-Term}
use Rattle.esc_term.specs.declared.term.Term.TheFolds.{fold-Term}
use Rattle.esc_nodes.specs.declared.top.Top.TheVariants.{Num, App}
use Rattle.esc_nodes.specs.Nodes.{shape_at}
use Rattle.esc_egraph.specs.Graph.{Graph, number_of}
use Rattle.esc_match.specs.declared.way.Binding.{Binding}
use Rattle.esc_match.specs.declared.way.Way.{Way}
use Rattle.esc_match.specs.CandidatesInside.{class_list, has_top, numbers_below}

-- the number of a variable's class, if it was met
unfoldable pub class_bound : List Binding → ℕ → Option ℕ
class_bound [] k = None
class_bound (b ∷ bs) k = if b.variable == k then Some b.class else class_bound bs k

abbrev pub new_way : Way
new_way = record { bound = []; matched = [] }

-- the way as it goes on to a node
abbrev pub visited : Way → ℕ → Way
visited w n = record { bound = w.bound; matched = w.matched ++ n ∷ [] }

abbrev pub visited_with : Way → Binding → ℕ → Way
visited_with w b n = record { bound = w.bound ++ b ∷ []; matched = w.matched ++ n ∷ [] }

-- the way as it goes on to the node of a variable
abbrev pub grown_at_class : Graph → ℕ → ℕ → Way → Option ℕ → List Way
grown_at_class g k n w None =
    visited_with w (record { variable = k; class = number_of g n }) n ∷ []
grown_at_class g k n w (Some c) = if c == number_of g n then visited w n ∷ [] else []

unfoldable pub grown_by_variable : Graph → ℕ → ℕ → Way → List Way
grown_by_variable g k n w = grown_at_class g k n w (class_bound w.bound k)

-- the way as it goes on to the node of a numeral, if one stands in its class
abbrev pub grown_if_any : List ℕ → ℕ → Way → List Way
grown_if_any [] n w = []
grown_if_any (m ∷ ms) n w = visited w n ∷ []

-- each part in turn lets ways grow at its node
unfoldable pub grown_by_parts : List (ℕ → Way → List Way) → List ℕ → List Way → List Way
grown_by_parts [] [] ws = ws
grown_by_parts (f ∷ fs) (n ∷ ns) ws = grown_by_parts fs ns (flat_map (f n) ws)
grown_by_parts _ _ ws = []

-- the way as it goes on to one of the candidates, and to the arguments there
abbrev pub grown_at : Graph → List (ℕ → Way → List Way) → List ℕ → Way → List Way
grown_at g parts candidates w =
    flat_map (λ m. grown_by_parts parts (shape_at g.nodes m).args (visited w m ∷ [])) candidates

abbrev pub grown_step : Graph → Term-F (ℕ → Way → List Way) → ℕ → Way → List Way
grown_step g (Term-F.Num v) n w =
    grown_if_any (filter (has_top g (Num v)) (class_list g n)) n w
grown_step g (Term-F.Var k) n w = grown_by_variable g k n w
grown_step g (Term-F.App head parts) n w =
    grown_at g parts (filter (has_top g (App head)) (class_list g n)) w

-- the ways in which a way goes on where the term matches the class of a node
unfoldable pub grown : Graph → Term → ℕ → Way → List Way
grown g = fold-Term (ℕ → Way → List Way) (grown_step g)

-- the same of terms and nodes, place by place
abbrev pub grown_by_all : Graph → List Term → List ℕ → List Way → List Way
grown_by_all g ps ns ws = grown_by_parts (map (grown g) ps) ns ws

-- where an application matches any node
abbrev pub grown_by_form : Graph → Term-F Term → List Way → List Way
grown_by_form g (Term-F.App head ps) ws =
    flat_map (grown_at g (map (grown g) ps)
    (filter (has_top g (App head)) (numbers_below (length g.nodes)))) ws
grown_by_form g form ws = []

abbrev pub grown_anywhere : Graph → Term → List Way → List Way
grown_anywhere g p ws = grown_by_form g (out-Term p) ws

-- where each of the terms matches any node
unfoldable pub trigger_ways : Graph → List Term → List Way → List Way
trigger_ways g [] ws = ws
trigger_ways g (p ∷ ps) ws = trigger_ways g ps (grown_anywhere g p ws)
