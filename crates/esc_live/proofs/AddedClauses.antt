-- Clauses come behind the others.
use Rattle.std.proofs.Common.{◌≡◌, ℕ, ◌+◌, ◌<◌, List, [], ◌∷◌, ◌++◌, length, map, take, get_or}
use Rattle.std.proofs.Common.{refl, ap, sym, ◌∙◌, append_assoc}
use Rattle.std.proofs.lemmas.List.{append-nil, map-append, take_more}
use Rattle.esc_clause.specs.ClauseContext.{Clause, new_clause}
use Rattle.esc_clause.specs.declared.occurrence.Occurrence.{Occurrence}
use Rattle.esc_live.specs.StandingInside.{AddsClauses, WithClauses}
use Rattle.esc_live.specs.declared.branch.LiveBranch.{LiveBranch}

abbrev with_more : LiveBranch → List Clause → LiveBranch
with_more v cs = record v { clauses = record v.clauses { clauses = cs } }

pub clauses_none : (v : LiveBranch) → WithClauses v v []
clauses_none v = ap (with_more v) (sym (append-nil v.clauses.clauses))

-- one more
pub clauses_push : (v u w : LiveBranch) (cs : List (List Occurrence)) (c : List Occurrence)
    → WithClauses v u cs → w ≡ with_more u (u.clauses.clauses ++ new_clause c ∷ [])
    → WithClauses v w (cs ++ c ∷ [])
clauses_push v u w cs c is more =
    more ∙ ap (λ (x : LiveBranch). with_more x (x.clauses.clauses ++ new_clause c ∷ [])) is
    ∙ ap (with_more v) (append_assoc v.clauses.clauses (map new_clause cs) (new_clause c ∷ [])
    ∙ ap (λ ds. v.clauses.clauses ++ ds) (sym (map-append new_clause cs (c ∷ []))))

-- one more of those that are gone through
pub clauses_next : (v u w : LiveBranch) (cs : List (List Occurrence)) (i : ℕ) (c : List Occurrence)
    → i < length cs → c ≡ get_or cs i c → WithClauses v u (take i cs)
    → w ≡ with_more u (u.clauses.clauses ++ new_clause c ∷ []) → WithClauses v w (take (i + 1) cs)
clauses_next v u w cs i c within is before more =
    clauses_push v u w (take i cs) c before more
    ∙ ap (λ ds. with_more v (v.clauses.clauses ++ map new_clause ds))
    (ap (λ d. take i cs ++ d ∷ []) is ∙ sym (take_more cs i c within))

pub clauses_add : (v w : LiveBranch) (cs : List (List Occurrence)) → WithClauses v w cs
    → AddsClauses v w
clauses_add v w cs is = record { more = map new_clause cs; rest = is }
