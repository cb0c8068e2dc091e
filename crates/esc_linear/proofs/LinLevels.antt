-- The linear meaning of a term, at each form of term.
use Rattle.std.proofs.Common.{◌≡◌, ℕ, ℤ, List, map}
use Rattle.esc_term.specs.declared.term.Head.{Head}
use Rattle.esc_term.specs.declared.term.Term.{Term}
use Rattle.esc_term.specs.declared.term.Term.TheVariants.{Num, Var, App}
use Rattle.esc_term.specs.declared.term.Term.TheOpen.{Term-F}
use denote.Hole.Carrier.{roll}
use Rattle.esc_term.specs.declared.term.Term.TheViews.{roll-Term}
use Rattle.esc_term.specs.declared.term.Term.TheFolds.{para-roll-Term}
use Rattle.esc_linear.specs.Lin.{Lin, number, unknown, applied_lin, lin_step, lin}

pub lin-Num : (n : ℤ) → lin (Num n) ≡ number n
unfolding lin roll-Term roll
lin-Num n = para-roll-Term Lin lin_step (Term-F.Num n)

pub lin-Var : (k : ℕ) → lin (Var k) ≡ unknown (Var k)
unfolding lin roll-Term roll
lin-Var k = para-roll-Term Lin lin_step (Term-F.Var k)

pub lin-App : (head : Head) (args : List Term) → lin (App head args)
    ≡ applied_lin head (map (λ t. (t, lin t)) args)
unfolding lin roll-Term roll
lin-App head args = para-roll-Term Lin lin_step (Term-F.App head args)
