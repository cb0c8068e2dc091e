-- Which terms stand in each form of term.
use Rattle.std.proofs.Common.{◌≡◌, ℕ, ℤ, ◌||◌, List, [], ◌∷◌, ap, ◌∙◌}
use Rattle.std.specs.List.{flat_map, list_any}
use Rattle.std.proofs.lemmas.List.Folds.{list_any-append}
use Rattle.std.proofs.Math.Bool.{or-false}
use Rattle.esc_term.specs.declared.term.Head.{Head}
use Rattle.esc_term.specs.declared.term.Term.{Term}
use Rattle.esc_term.specs.declared.term.Term.TheVariants.{Num, Var, App}
use Rattle.esc_term.specs.Equal.{same_term}
use Rattle.esc_term.specs.Term.{subterms}
use Rattle.esc_term.proofs.TermLevels.{subterms-Num, subterms-Var, subterms-App}
use Rattle.esc_cover.specs.Classes.{has}
use Rattle.esc_trigger.proofs.WalkLevels.{list_any-flat_map}

pub has-in-Num : (s : Term) (n : ℤ) → has (subterms (Num n)) s ≡ same_term s (Num n)
has-in-Num s n = ap (λ ts. has ts s) (subterms-Num n) ∙ or-false (same_term s (Num n))

pub has-in-Var : (s : Term) (k : ℕ) → has (subterms (Var k)) s ≡ same_term s (Var k)
has-in-Var s k = ap (λ ts. has ts s) (subterms-Var k) ∙ or-false (same_term s (Var k))

has-in-some : (s : Term) (ts : List Term)
    → has (flat_map subterms ts) s ≡ list_any (λ t. has (subterms t) s) ts
has-in-some s ts = list_any-flat_map (same_term s) subterms ts

pub has-in-App : (s : Term) (head : Head) (args : List Term)
    → has (subterms (App head args)) s
    ≡ (list_any (λ t. has (subterms t) s) args || same_term s (App head args))
has-in-App s head args =
    ap (λ ts. has ts s) (subterms-App head args)
    ∙ list_any-append (same_term s) (flat_map subterms args) (App head args ∷ [])
    ∙ ap (λ b. has (flat_map subterms args) s || b) (or-false (same_term s (App head args)))
    ∙ ap (λ b. b || same_term s (App head args)) (has-in-some s args)

pub ruleset part_levels = (has-in-Num, has-in-Var, has-in-App)
