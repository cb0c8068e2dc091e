use Rattle.esc_simplex.proofs.Addends.{Adding}
use Rattle.esc_simplex.proofs.simplex.Simplex.addends.Given as goal

-- the first terms are in use, in the parts so far
abbrev pub invariant-parts : goal.invariant-parts
invariant-parts g l = Adding g.R.Carries.carried l.fn.trail.records l.trail.records l.fn.self l.self
    l.parts l.part-index l.addends
