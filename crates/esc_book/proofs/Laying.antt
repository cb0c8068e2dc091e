-- The entries of formulas side by side.
use Rattle.std.proofs.Common.{◌≡◌, ℕ, suc, zero, ◌+◌, List, [], ◌∷◌, ◌++◌, Some}
use Rattle.std.proofs.Common.{length}
use Rattle.std.proofs.Common.{take, refl, ap, ap₂, ◌∙◌, arith, length-append}
use Rattle.std.specs.List.{flat_map, slice_get}
use Rattle.esc_term.specs.declared.formula.Formula.{Formula}
use Rattle.esc_term.specs.declared.formula.Formula.TheViews.{out-Formula}
use Rattle.esc_book.specs.Book.{Outline, form_at, heads_of, laid, own}
use Rattle.esc_book.specs.ReadingInside.{begin_at}

pub length-laid : (b n : ℕ) (fs : List Formula) → length (laid b n fs) ≡ length fs
length-laid b n [] = refl
length-laid b n (f ∷ fs) = ap suc (length-laid (b + length (own f)) (n + 1) fs)

pub laid-append : (b n : ℕ) (fs gs : List Formula) → laid b n (fs ++ gs)
    ≡ laid b n fs ++ laid (b + length (flat_map own fs)) (n + length fs) gs
laid-append b n [] gs =
    let place : b ≡ b + 0 = omega arith in
    let index : n ≡ n + 0 = omega arith in
    ap₂ (λ x y. laid x y gs) place index
laid-append b n (f ∷ fs) gs =
    let place : b + length (own f) + length (flat_map own fs) ≡ b + length (flat_map own (f ∷ fs)) =
    omega (arith, length-append (own f) (flat_map own fs)) in
    let index : n + 1 + length fs ≡ n + length (f ∷ fs) = omega arith in
    ap (λ os. record { begin = b; next = n + length (heads_of f); form = form_at (out-Formula f) }
    ∷ os) (laid-append (b + length (own f)) (n + 1) fs gs
    ∙ ap₂ (λ x y. laid (b + length (own f)) (n + 1) fs ++ laid x y gs) place index)

abbrev pub outline_at : ℕ → ℕ → Formula → Outline
outline_at begin next f = record {
  begin = begin;
  next = next;
  form = form_at (out-Formula f);
}

pub laid-get : (b n : ℕ) (hs : List Formula) (i : ℕ) (f : Formula) → slice_get hs i ≡ Some f
    → slice_get (laid b n hs) i
    ≡ Some (outline_at (b + begin_at hs i) (n + i + length (heads_of f)) f)
laid-get b n [] i f e = cc
laid-get b n (h ∷ hs) zero f e =
    let same : h ≡ f = cc in
    let place : b ≡ b + 0 = omega arith in
    let index : n + length (heads_of h) ≡ n + 0 + length (heads_of h) = omega arith in
    ap₂ (λ x y. Some (outline_at x y h)) place index
    ∙ ap (λ x. Some (outline_at (b + 0) (n + 0 + length (heads_of x)) x)) same
laid-get b n (h ∷ hs) (suc i) f e =
    let place : b + length (own h) + begin_at hs i ≡ b + begin_at (h ∷ hs) (suc i) =
    omega (arith, length-append (own h) (flat_map own (take i hs))) in
    let index : n + 1 + i ≡ n + suc i = omega arith in
    laid-get (b + length (own h)) (n + 1) hs i f e
    ∙ ap₂ (λ x y. Some (outline_at x (y + length (heads_of f)) f)) place index
