-- What each function of a term gives at each form of term.
use Rattle.std.proofs.Common.{◌≡◌, ℕ, ◌-◌, ℤ, Bool, false, ◌||◌, List, [], ◌∷◌, ◌++◌, map}
use Rattle.std.proofs.Common.{append-nil, ap, ◌∙◌}
use Rattle.std.specs.List.{list_any, flat_map}
use Rattle.std.proofs.lemmas.Grind.{flat_map-append}
use denote.Hole.Carrier.{roll}
use Rattle.esc_term.specs.declared.term.Head.{Head}
use Rattle.esc_term.specs.declared.term.Term.{Term}
use Rattle.esc_term.specs.declared.term.Term.TheVariants.{Num, Var, App}
use Rattle.esc_term.specs.declared.term.Term.TheOpen.{Term-F}
use Rattle.esc_term.specs.declared.term.Term.TheViews.{roll-Term}
use Rattle.esc_term.specs.declared.term.Term.TheFolds.{fold-roll-Term}
use Rattle.esc_term.proofs.Pairs.{flat_map-map, list_any-map}
use Rattle.esc_trigger.specs.Variables.{variables_step, variables_of, lowered_step, lowered}
use Rattle.esc_trigger.specs.Variables.{is_sum_head, calculates_step, calculates}

pub variables_of-Num : (n : ℤ) → variables_of (Num n) ≡ []
unfolding variables_of roll-Term roll
variables_of-Num n = fold-roll-Term (List ℕ) variables_step (Term-F.Num n)

-- a numeral adds none
pub variables-after-Num : (ks : List ℕ) (n : ℤ) → ks ++ variables_of (Num n) ≡ ks
variables-after-Num ks n = ap (λ ns. ks ++ ns) (variables_of-Num n) ∙ append-nil ks

pub variables_of-Var : (k : ℕ) → variables_of (Var k) ≡ k ∷ []
unfolding variables_of roll-Term roll
variables_of-Var k = fold-roll-Term (List ℕ) variables_step (Term-F.Var k)

pub variables_of-App : (head : Head) (args : List Term)
    → variables_of (App head args) ≡ flat_map variables_of args
unfolding variables_of roll-Term roll
variables_of-App head args =
    fold-roll-Term (List ℕ) variables_step (Term-F.App head args)
    ∙ flat_map-map (λ variables. variables) variables_of args

pub lowered-Num : (d : ℕ) (n : ℤ) → lowered d (Num n) ≡ Num n
unfolding lowered roll-Term roll
lowered-Num d n = fold-roll-Term Term (lowered_step d) (Term-F.Num n)

pub lowered-Var : (d k : ℕ) → lowered d (Var k) ≡ Var (k - d)
unfolding lowered roll-Term roll
lowered-Var d k = fold-roll-Term Term (lowered_step d) (Term-F.Var k)

pub lowered-App : (d : ℕ) (head : Head) (args : List Term)
    → lowered d (App head args) ≡ App head (map (lowered d) args)
unfolding lowered roll-Term roll
lowered-App d head args = fold-roll-Term Term (lowered_step d) (Term-F.App head args)

pub calculates-Num : (n : ℤ) → calculates (Num n) ≡ false
unfolding calculates roll-Term roll
calculates-Num n = fold-roll-Term Bool calculates_step (Term-F.Num n)

pub calculates-Var : (k : ℕ) → calculates (Var k) ≡ false
unfolding calculates roll-Term roll
calculates-Var k = fold-roll-Term Bool calculates_step (Term-F.Var k)

pub calculates-App : (head : Head) (args : List Term)
    → calculates (App head args) ≡ (is_sum_head head || list_any calculates args)
unfolding calculates roll-Term roll
calculates-App head args =
    fold-roll-Term Bool calculates_step (Term-F.App head args)
    ∙ ap (λ b. is_sum_head head || b) (list_any-map (λ c. c) calculates args)

pub ruleset levels = (
  variables-after-Num,
  variables_of-Num,
  variables_of-Var,
  variables_of-App,
  lowered-Num,
  lowered-Var,
  lowered-App,
)

-- the variables of terms with one more
pub held_with : (ts : List Term) (t : Term)
    → flat_map variables_of (ts ++ t ∷ []) ≡ flat_map variables_of ts ++ variables_of t
held_with ts t =
    flat_map-append variables_of ts (t ∷ [])
    ∙ ap (λ ks. flat_map variables_of ts ++ ks) (append-nil (variables_of t))

pub ruleset held_more = (held_with)
