-- How much stands in a term: its arguments are smaller, by the size that a walk over it goes by.
use Rattle.std.proofs.Common.{◌≡◌, ℕ, ◌+◌, ◌*◌, ◌<◌, List, length, map, sum, get_or, ap, arith}
use Rattle.std.proofs.lemmas.List.Sums.{get_or-le-sum_by, sum-map}
use denote.Hole.Carrier.{roll}
use Rattle.esc_term.specs.declared.term.Head.{Head}
use Rattle.esc_term.specs.declared.term.Term.{Term}
use Rattle.esc_term.specs.declared.term.Term.TheVariants as term
use Rattle.esc_term.specs.declared.term.Term.TheOpen.{Term-F}
use Rattle.esc_term.specs.declared.term.Term.TheViews.{roll-Term}
use Rattle.esc_term.specs.declared.term.Term.TheFolds.{fold-Term, fold-roll-Term}

abbrev pub term_step : Term-F ℕ → ℕ
term_step (Term-F.App head args) = 1 + sum args
term_step _ = 1

unfoldable pub term_size : Term → ℕ
term_size = fold-Term ℕ term_step

term_size-App : (head : Head) (ts : List Term) →
    term_size (term.App head ts) ≡ 1 + sum (map term_size ts)
unfolding term_size roll-Term roll
term_size-App head ts = fold-roll-Term ℕ term_step (Term-F.App head ts)

-- one of a list
pub falls-item : {X : Type 0} (size : X → ℕ) (xs : List X) (i : ℕ) (x : X) → i < length xs →
    x ≡ get_or xs i x → 2 * size x < 1 + 2 * sum (map size xs)
falls-item size xs i x within is =
    omega (arith, ap size is, get_or-le-sum_by size xs i x within, sum-map size xs)

pub falls-args : (t : Term) (head : Head) (args ts : List Term) → t ≡ term.App head args →
    ts ≡ args → 1 + 2 * sum (map term_size ts) < 2 * term_size t
falls-args t head args ts is same =
    omega (arith, ap term_size is, term_size-App head args, ap (λ us. sum (map term_size us)) same)
