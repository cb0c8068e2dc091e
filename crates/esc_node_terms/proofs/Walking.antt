-- A walk over a term that makes the node of each part after those of its arguments.
use Rattle.std.proofs.Common.{◌≡◌, ℕ, ◌+◌, ◌<◌, Bool, true, List, [], ◌∷◌, ◌++◌, length, get_or}
use Rattle.std.proofs.Common.{take, ap, sym, ◌∙◌, append-nil}
use Rattle.std.specs.List.{flat_map, fold, list_all}
use Rattle.std.proofs.lemmas.Grind.{flat_map-append}
use Rattle.std.proofs.lemmas.List.{take_more}
use Rattle.std.proofs.lemmas.List.Elements.{Contains-get_or}
use Rattle.std.proofs.lemmas.List.Sums.{fold-append}
use Rattle.esc_term.specs.declared.term.Head.{Head}
use Rattle.esc_term.specs.declared.term.Term.{Term}
use Rattle.esc_term.specs.declared.term.Term.TheVariants as term
use Rattle.esc_term.specs.Term.{is_ground, subterms, with_once}
use Rattle.esc_term.proofs.GroundTerms.{is_ground-App, is_ground-Var}
use Rattle.esc_term.proofs.TermLevels.{subterms-App, subterms-Num}
use Rattle.esc_cover.proofs.TestLemmas.{all_at}

-- one more element of a list whose elements bring terms in turn
pub brought_more : {X : Type 0} (f : X → List Term) (seen : List Term) (xs : List X) (i : ℕ)
    (x : X) → i < length xs → x ≡ get_or xs i x →
    fold with_once seen (flat_map f (take (i + 1) xs))
    ≡ fold with_once (fold with_once seen (flat_map f (take i xs))) (f x)
brought_more f seen xs i x within is =
    ap (λ ys. fold with_once seen (flat_map f ys)) (take_more xs i x within
    ∙ ap (λ y. take i xs ++ y ∷ []) (sym is))
    ∙ (ap (fold with_once seen) (flat_map-append f (take i xs) (x ∷ [])
    ∙ ap (λ ys. flat_map f (take i xs) ++ ys) (append-nil (f x)))
    ∙ fold-append with_once seen (flat_map f (take i xs)) (f x))

pub brought-Num : (seen : List Term) (n : _) → fold with_once seen (subterms (term.Num n))
    ≡ with_once seen (term.Num n)
brought-Num seen n = ap (fold with_once seen) (subterms-Num n)

pub brought-App : (seen : List Term) (head : Head) (args : List Term) →
    fold with_once seen (subterms (term.App head args))
    ≡ with_once (fold with_once seen (flat_map subterms args)) (term.App head args)
brought-App seen head args = ap (fold with_once seen) (subterms-App head args)
    ∙ fold-append with_once seen (flat_map subterms args) (term.App head args ∷ [])

pub each_passes : {X : Type 0} (p : X → Bool) (xs : List X) (i : ℕ) (x : X) → i < length xs →
    x ≡ get_or xs i x → list_all p xs ≡ true → p x ≡ true
each_passes p xs i x within is all = ap p is
    ∙ all_at p xs (get_or xs i x) all (Contains-get_or xs i x within)

pub args_are_ground : (t : Term) (head : Head) (args ts : List Term) → t ≡ term.App head args →
    ts ≡ args → is_ground t ≡ true → list_all is_ground ts ≡ true
args_are_ground t head args ts is same g = ap (list_all is_ground) same
    ∙ (sym (is_ground-App head args) ∙ (ap is_ground (sym is) ∙ g))

pub ruleset brought = (brought-Num, brought-App, is_ground-Var)
