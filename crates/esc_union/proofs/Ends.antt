-- Lists that grow at their ends.
use Rattle.std.proofs.Common.{zero, suc, List, [], ◌∷◌, ◌++◌, length, All, sym, subst, append_assoc, length-append, arith, Result, Ok, Err, OnErr}
use Rattle.std.proofs.lemmas.List.{append-nil, get_or_append_left, get_or_at}

-- what holds of no elements, and goes on with one more at the end, holds of all lists
pub by_ends : {X : Type 0} (P : List X → Type 0) → P []
    → ((xs : List X) (x : X) → P xs → P (xs ++ (x ∷ []))) → (xs : List X) → P xs
by_ends {X} P none more xs = onward [] xs none
  where
    onward : (done rest : List X) → P done → P (done ++ rest)
    onward done [] p = subst P (sym (append-nil done)) p
    onward done (x ∷ rest) p = subst P (append_assoc done (x ∷ []) rest)
        (onward (done ++ (x ∷ [])) rest (more done x p))

pub All-front : {X : Type 0} (P : X → Type 0) (xs : List X) (x : X) → All P (xs ++ (x ∷ []))
    → All P xs
All-front P xs x all i d l = subst P (get_or_append_left xs (x ∷ []) d i l)
    (all i d (omega (arith, l, length-append xs (x ∷ []))))

pub All-last : {X : Type 0} (P : X → Type 0) (xs : List X) (x : X) → All P (xs ++ (x ∷ [])) → P x
All-last P xs x all =
    subst P (get_or_at xs x [] x (length xs) (λ k. length xs))
    (all (length xs) x (omega (arith, length-append xs (x ∷ []))))

pub All-one : {X : Type 0} (P : X → Type 0) (x : X) → P x → All P (x ∷ [])
All-one P x p zero d l = p
All-one P x p (suc i) d l = absurd (omega (arith, l))

-- what holds holds where there is an error
pub on_err : {T E P : Type 0} (r : Result T E) → P → OnErr r P
on_err (Ok x) p = tt
on_err (Err e) p = p
