-- The newest unknown owns its row.
use Rattle.std.proofs.Common.{◌≡◌, ℕ, ◌+◌, ◌-◌, ◌<◌, List, [], ◌∷◌, ◌++◌, length, refl, sym}
use Rattle.std.proofs.Common.{ap, ◌∙◌, subst, arith}
use Rattle.std.proofs.lemmas.Bool.{eq-eqb, cond-true}
use Rattle.std.proofs.lemmas.List.{length_push}
use Rattle.esc_tableau.specs.Changes.{free_owner}
use Rattle.esc_tableau.specs.Table.{Table, OwnsRow, nobody, holds, size, place_of}
use Rattle.esc_tableau.specs.declared.owner.Owner.{Owner}
use Rattle.esc_tableau.proofs.Counting.{mark, count_by-push, has_place}

-- who is pushed has a place
pushed_place : (os : List Owner) (u : ℕ) → place_of (os ++ free_owner u ∷ []) u
    < length (os ++ free_owner u ∷ [])
pushed_place os u =
    let one : mark (holds u (free_owner u)) ≡ 1 = cond-true (holds u (free_owner u)) 1 0
    (eq-eqb u u refl) in
    has_place (holds u) (os ++ free_owner u ∷ []) nobody
    (omega (arith, one, count_by-push (holds u) os (free_owner u)))

pub newest_owns : (t : Table) (os cs : List Owner) → t.owners ≡ os
    ++ free_owner (length os + length cs) ∷ [] → t.columns ≡ cs → OwnsRow t (size t - 1)
newest_owns t os cs owners columns =
    let more : length t.owners ≡ length os + 1 = ap length owners
    ∙ length_push os (free_owner (length os + length cs)) in
    let same : length t.columns ≡ length cs = ap length columns in
    let last : length os + length cs ≡ size t - 1 = omega (arith, more, same) in
    subst (λ (u : ℕ). OwnsRow t u) last
    (subst (λ (ws : List Owner). place_of ws (length os + length cs) < length ws) (sym owners)
    (pushed_place os (length os + length cs)))
