-- What the parts become when a multiple of a term is added, by the place of the term.
use Rattle.std.proofs.Common.{◌≡◌, ◌≢◌, ℕ, zero, suc, true, false, cond, List, [], ◌∷◌, ◌++◌, take, get_or, set, append-nil, refl, sym, ap, ap₂, ◌∙◌, subst, arith}
use Rattle.std.specs.List.{remove}
use Rattle.std.proofs.lemmas.List.Elements.{All-nil, All-head, All-tail}
use Rattle.esc_term.specs.declared.term.Term.{Term}
use Rattle.esc_term.specs.Equal.{same_term-is}
use Rattle.esc_frac.specs.Fits.{SumFits}
use Rattle.esc_frac.specs.Rational.{ℚ, is_zero, ◌+ℚ◌}
use Rattle.esc_linear.specs.declared.form.Part.{Part}
use Rattle.esc_linear.specs.Forms.{part, with_factor, with_part}
use Rattle.esc_linear.specs.PlacesInside.{IsNowhere, IsPlaceOf}
use Rattle.esc_linear.specs.Steps.{adds, StepFits, AllFit, part_steps}
use Rattle.esc_linear.proofs.StepLemmas.{AllFit-one}
use Rattle.esc_linear.proofs.PartLemmas.{differ_when}

-- where it is not there

pub with_part-nowhere : (ps : List Part) (t : Term) (q : ℚ) → IsNowhere ps t → with_part ps t q ≡ ps
    ++ with_factor t q []
unfolding with_part
with_part-nowhere [] t q h = refl
with_part-nowhere (p ∷ ps) t q h =
    ap (λ b. cond b (with_factor t (p.factor +ℚ q) ps) (p ∷ with_part ps t q))
    (differ_when p.term t (All-head (λ (p : Part). p.term ≢ t) p ps h))
    ∙ ap (λ r. p ∷ r) (with_part-nowhere ps t q (All-tail (λ (p : Part). p.term ≢ t) p ps h))

pub part_steps-nowhere : (ps : List Part) (t : Term) (q : ℚ) → IsNowhere ps t
    → part_steps ps t q ≡ []
unfolding part_steps
part_steps-nowhere [] t q h = refl
part_steps-nowhere (p ∷ ps) t q h =
    ap (λ b. cond b (adds p.factor q ∷ []) (part_steps ps t q))
    (differ_when p.term t (All-head (λ (p : Part). p.term ≢ t) p ps h))
    ∙ part_steps-nowhere ps t q (All-tail (λ (p : Part). p.term ≢ t) p ps h)

-- where it is there

later : (p : Part) (ps : List Part) (t : Term) (i : ℕ) → IsPlaceOf (p ∷ ps) t (suc i)
    → IsPlaceOf ps t i
later p ps t i h = record {
  within = let within = h.within in omega arith;
  same = h.same;
  first = All-tail (λ (p : Part). p.term ≢ t) p (take i ps) h.first;
}

pub part_steps-at : (ps : List Part) (t : Term) (q : ℚ) (i : ℕ) (d : Part) → IsPlaceOf ps t i
    → part_steps ps t q ≡ adds (get_or ps i d).factor q ∷ []
unfolding part_steps
part_steps-at [] t q i d h = absurd (let within = h.within in omega arith)
part_steps-at (p ∷ ps) t q zero d h =
    ap (λ b. cond b (adds p.factor q ∷ []) (part_steps ps t q))
    ((same_term-is p.term t).1 (h.same d))
part_steps-at (p ∷ ps) t q (suc i) d h =
    ap (λ b. cond b (adds p.factor q ∷ []) (part_steps ps t q))
    (differ_when p.term t (All-head (λ (p : Part). p.term ≢ t) p (take i ps) h.first))
    ∙ part_steps-at ps t q i d (later p ps t i h)

pub with_part-emptied : (ps : List Part) (t : Term) (q : ℚ) (i : ℕ) (d : Part) → IsPlaceOf ps t i
    → is_zero ((get_or ps i d).factor +ℚ q) ≡ true → with_part ps t q ≡ remove ps i
unfolding with_part
with_part-emptied [] t q i d h e = absurd (let within = h.within in omega arith)
with_part-emptied (p ∷ ps) t q zero d h e =
    ap (λ b. cond b (with_factor t (p.factor +ℚ q) ps) (p ∷ with_part ps t q))
    ((same_term-is p.term t).1 (h.same d))
    ∙ ap (λ b. cond b ps (part t (p.factor +ℚ q) ∷ ps)) e
with_part-emptied (p ∷ ps) t q (suc i) d h e =
    ap (λ b. cond b (with_factor t (p.factor +ℚ q) ps) (p ∷ with_part ps t q))
    (differ_when p.term t (All-head (λ (p : Part). p.term ≢ t) p (take i ps) h.first))
    ∙ ap (λ r. p ∷ r) (with_part-emptied ps t q i d (later p ps t i h) e)

pub with_part-changed : (ps : List Part) (t : Term) (q : ℚ) (i : ℕ) (d : Part) → IsPlaceOf ps t i
    → is_zero ((get_or ps i d).factor +ℚ q) ≡ false
    → with_part ps t q ≡ set ps i (part t ((get_or ps i d).factor +ℚ q))
unfolding with_part
with_part-changed [] t q i d h e = absurd (let within = h.within in omega arith)
with_part-changed (p ∷ ps) t q zero d h e =
    ap (λ b. cond b (with_factor t (p.factor +ℚ q) ps) (p ∷ with_part ps t q))
    ((same_term-is p.term t).1 (h.same d))
    ∙ ap (λ b. cond b ps (part t (p.factor +ℚ q) ∷ ps)) e
with_part-changed (p ∷ ps) t q (suc i) d h e =
    ap (λ b. cond b (with_factor t (p.factor +ℚ q) ps) (p ∷ with_part ps t q))
    (differ_when p.term t (All-head (λ (p : Part). p.term ≢ t) p (take i ps) h.first))
    ∙ ap (λ r. p ∷ r) (with_part-changed ps t q i d (later p ps t i h) e)

-- ---- the step at the place, where f is the coefficient there

pub fits_at : (ps : List Part) (t : Term) (q : ℚ) (i : ℕ) (d : Part) (f : ℚ) → IsPlaceOf ps t i → f
    ≡ (get_or ps i d).factor → SumFits f q → AllFit (part_steps ps t q)
unfolding StepFits
fits_at ps t q i d f h is fits =
    subst AllFit (ap (λ r. adds r q ∷ []) is ∙ sym (part_steps-at ps t q i d h))
    (AllFit-one (adds f q) fits)

pub fits_there : (ps : List Part) (t : Term) (q : ℚ) (i : ℕ) (d : Part) (f : ℚ) → IsPlaceOf ps t i
    → f ≡ (get_or ps i d).factor → AllFit (part_steps ps t q) → SumFits f q
unfolding StepFits
fits_there ps t q i d f h is all =
    All-head StepFits (adds f q) [] (subst AllFit (part_steps-at ps t q i d h
    ∙ ap (λ r. adds r q ∷ []) (sym is)) all)

pub emptied : (ps : List Part) (t : Term) (q : ℚ) (i : ℕ) (d : Part) (f : ℚ) → IsPlaceOf ps t i → f
    ≡ (get_or ps i d).factor → is_zero (f +ℚ q) ≡ true → remove ps i ≡ with_part ps t q
emptied ps t q i d f h is none = sym (with_part-emptied ps t q i d h
    (ap (λ r. is_zero (r +ℚ q)) (sym is) ∙ none))

pub changed : (ps : List Part) (t s : Term) (q : ℚ) (i : ℕ) (d : Part) (f : ℚ) → IsPlaceOf ps t i
    → f ≡ (get_or ps i d).factor → is_zero (f +ℚ q) ≡ false → s ≡ t → set ps i (part s (f +ℚ q))
    ≡ with_part ps t q
changed ps t s q i d f h is some same =
    ap₂ (λ u r. set ps i (part u (r +ℚ q))) same is
    ∙ sym (with_part-changed ps t q i d h (ap (λ r. is_zero (r +ℚ q)) (sym is) ∙ some))

-- ---- where there is none

pub no_steps : (ps : List Part) (t : Term) (q : ℚ) → IsNowhere ps t → AllFit (part_steps ps t q)
no_steps ps t q h = subst AllFit (sym (part_steps-nowhere ps t q h)) (All-nil StepFits)

pub none_added : (ps : List Part) (t : Term) (q : ℚ) → IsNowhere ps t → is_zero q ≡ true → ps
    ≡ with_part ps t q
none_added ps t q h e = sym (with_part-nowhere ps t q h
    ∙ ap (λ b. ps ++ cond b [] (part t q ∷ [])) e ∙ append-nil ps)

pub one_added : (ps : List Part) (t s : Term) (q : ℚ) → IsNowhere ps t → is_zero q ≡ false → s ≡ t
    → ps ++ part s q ∷ [] ≡ with_part ps t q
one_added ps t s q h e same =
    ap (λ u. ps ++ part u q ∷ []) same
    ∙ sym (with_part-nowhere ps t q h ∙ ap (λ b. ps ++ cond b [] (part t q ∷ [])) e)
