-- What is kept stays right as formulas are kept one after the other.
use Rattle.std.proofs.Common.{◌≡◌, ◌≢◌, inl, inr, ℕ, ◌+◌, ◌<◌, true, false}
use Rattle.std.proofs.Common.{List, [], ◌∷◌, ◌++◌, length, get_or, Some, option_map, refl, ap, sym}
use Rattle.std.proofs.Common.{subst, ◌∙◌}
use Rattle.std.proofs.lemmas.List.{append-nil, append_assoc, get_or_default}
use Rattle.std.proofs.lemmas.List.Elements.{All-push, Contains-push_cases}
use Rattle.std.proofs.lemmas.List.Quantifiers.{all_pairs_push}
use Rattle.std.specs.List.{All, AllPairs, AllZip, Contains, find, flat_map}
use Rattle.std.specs.Prelude.{slice_get}
use Rattle.esc_term.specs.declared.formula.Formula.{Formula}
use Rattle.esc_term.specs.Equal.{same_formula, same_formula-is}
use Rattle.esc_term.specs.Formula.{substituted_quant}
use Rattle.esc_term.proofs.FormulaLevels.{substituted_quant-at}
use Rattle.esc_cover.proofs.TestLemmas.{false_from}
use Rattle.esc_trigger.specs.Triggers.{triggers}
use Rattle.esc_fact.specs.Depth.{deep, depth_of_atom}
use Rattle.esc_fact.specs.Fact.{closed_at}
use Rattle.esc_fact.specs.Legal.{HasAtom}
use Rattle.esc_fact.specs.declared.base.Base.{Base}
use Rattle.esc_fact.specs.declared.fact.Fact.{Fact}
use Rattle.esc_rounds.specs.Branch.{IsKept, formula_kept}
use Rattle.esc_rounds.specs.Origins.{Origin, is_origin_of, origins_in}
use Rattle.esc_rounds.specs.declared.kept.Kept.{Kept}
use Rattle.esc_standing.specs.Formulas.{AreBeside}
use Rattle.esc_standing.specs.Keeping.{IsClosedKept, Keeps, KeepsNew, KeepsOne, kept_from}
use Rattle.esc_standing.specs.declared.formulas.KeptFormulas.{KeptFormulas}
use Rattle.esc_standing.proofs.KeepingFacts.{find_at, form_of, origin_same, same_whole}
use Rattle.esc_standing.proofs.KeptPlaces.{place_there, zip_more}
use Rattle.esc_standing.proofs.NamedAtTerms.{IsNamed}
use Rattle.esc_standing.proofs.NestedQuantified.{get_after, get_first}

module _ (base : Base) (all : List Fact) (start : KeptFormulas) (depth : ℕ) where
  abbrev origins : List Origin
  origins = flat_map (origins_in base) all

  -- the origin names an atom of the facts, of this depth if it is new
  pub record IsMet (o : Origin) (f : Formula) : Type 0 where
    pub named : IsNamed base o f
    pub atom : HasAtom base all f
    pub fresh : (IsClosedKept start f → ⊥) → depth_of_atom (deep base all) f ≡ depth

  -- what the origin names is kept
  pub record IsCovered (x : KeptFormulas) (o : Origin) : Type 0 where
    pub f : Formula
    pub named : IsNamed base o f
    pub kept : IsClosedKept x f

  -- what is kept is right, and what these origins name is kept
  pub record IsRight (seen : List Origin) (x : KeptFormulas) : Type 0 where
    pub beside : AreBeside base x.kept x.closed
    pub kept : All (IsKept base all) x.kept
    pub differ : AllPairs (λ k l. formula_kept base k ≢ formula_kept base l) x.kept
    pub covered : (o : Origin) → Contains seen o → IsCovered x o
    pub grown : (f : Formula) → IsClosedKept start f → IsClosedKept x f

  -- ---- a formula that is kept already

  right_before : (seen : List Origin) (o : Origin) (f : Formula) (x : KeptFormulas) → IsMet o f
      → IsClosedKept x f → IsRight seen x → IsRight (seen ++ o ∷ []) x
  right_before seen o f x met there right = record {
    beside = right.beside;
    kept = right.kept;
    differ = right.differ;
    covered = λ p h.
        elim (Contains-push_cases seen o p h) [
          | inl before ↦ right.covered p before
          | inr same ↦ subst (IsCovered x) same
              (record { f = f; named = met.named; kept = there })
        ];
    grown = right.grown;
  }

  -- ---- a new one

  module _ (seen rest : List Origin) (o : Origin) (f : Formula) (x y : KeptFormulas)
      (is : origins ≡ seen ++ o ∷ rest) (met : IsMet o f) (new : KeepsNew depth o f x y)
      (right : IsRight seen x) where
    abbrev k : Kept
    k = kept_from o new.universal new.quant depth

    abbrev n : IsNamed base o f
    n = met.named

    formula_is : formula_kept base k ≡ Some f
    formula_is = ap (option_map (λ q. closed_at q o.outer)) n.numbered ∙ ap Some n.is

    forms : (new.universal ≡ n.q.universal)
        × (new.quant ≡ substituted_quant o.outer n.q.quant 0)
    forms =
        same_whole new.universal n.q.universal new.quant (substituted_quant o.outer n.q.quant 0)
        (new.is ∙ sym n.is ∙ form_of n.q o.outer n.q.universal refl)

    none_before : (p : Origin) → Contains seen p → is_origin_of base f p ≡ false
    none_before p h =
        let c = right.covered p h in
        origin_same base p c.f f c.named
        ∙ false_from (same_formula c.f f) (λ e.
        new.absent (subst (IsClosedKept x) ((same_formula-is c.f f).0 e) c.kept))

    found_here : is_origin_of base f o ≡ true
    found_here = origin_same base o f f n ∙ (same_formula-is f f).1 refl

    is_kept : IsKept base all k
    is_kept = record {
      q = n.q;
      numbered = n.numbered;
      first = ap (λ os. find (is_origin_of base (closed_at n.q o.outer)) os) is
          ∙ ap (λ g. find (is_origin_of base g) (seen ++ o ∷ rest)) n.is
          ∙ find_at (is_origin_of base f) seen o rest none_before found_here;
      atom = subst (HasAtom base all) (sym n.is) met.atom;
      as_many = n.as_many;
      grounded = n.grounded;
      universal = forms.0;
      count = ap (λ r. r.count) forms.1
          ∙ ap (λ r. r.count) (substituted_quant-at o.outer 0 n.q.quant);
      triggers_are = ap triggers forms.1;
      depth = sym (met.fresh (λ h. new.absent (right.grown f h)))
          ∙ ap (depth_of_atom (deep base all)) (sym n.is);
    }

    other_before : (i : ℕ) (d : Kept) → i < length x.kept
        → formula_kept base (get_or x.kept i d) ≢ formula_kept base k
    other_before i d small e =
        new.absent (
          i,
          place_there base x.kept x.closed f i (get_or x.kept i d) right.beside small
              (get_or_default x.kept i (get_or x.kept i d) d small) (e ∙ formula_is),
        )

    still : (g : Formula) → IsClosedKept x g → IsClosedKept y g
    still g h =
        (h.0, ap (λ fs. slice_get fs h.0) new.closed ∙ get_first x.closed (f ∷ []) h.0 g h.1)

    here : IsClosedKept y f
    here = (
      length x.closed + 0,
      ap (λ fs. slice_get fs (length x.closed + 0)) new.closed
          ∙ get_after x.closed (f ∷ []) 0 f refl,
    )

    right_new : IsRight (seen ++ o ∷ []) y
    right_new = record {
      beside = subst (λ ks. AreBeside base ks y.closed) (sym new.kept)
          (subst (AreBeside base (x.kept ++ k ∷ [])) (sym new.closed)
          (zip_more (λ k f. formula_kept base k ≡ Some f) x.kept x.closed k f right.beside
          formula_is));
      kept = subst (All (IsKept base all)) (sym new.kept)
          (All-push (IsKept base all) x.kept k right.kept is_kept);
      differ = subst (AllPairs (λ k l. formula_kept base k ≢ formula_kept base l))
          (sym new.kept)
          (all_pairs_push (λ k l. formula_kept base k ≢ formula_kept base l) x.kept k right.differ
          other_before);
      covered = λ p h.
          elim (Contains-push_cases seen o p h) [
            | inl before ↦ let c = right.covered p before in
                record { f = c.f; named = c.named; kept = still c.f c.kept }
            | inr same ↦ subst (IsCovered y) same
                (record { f = f; named = n; kept = here })
          ];
      grown = λ g h. still g (right.grown g h);
    }

  -- ---- all of them

  right_next : (seen rest : List Origin) (o : Origin) (f : Formula) (x y : KeptFormulas)
      → origins ≡ seen ++ o ∷ rest → IsMet o f → KeepsOne depth o f x y → IsRight seen x
      → IsRight (seen ++ o ∷ []) y
  right_next seen rest o f x y is met (inl h) right =
      subst (IsRight (seen ++ o ∷ [])) (sym h.1) (right_before seen o f x met h.0 right)
  right_next seen rest o f x y is met (inr new) right =
      right_new seen rest o f x y is met new right

  pub right_all : (os : List Origin) (fs : List Formula) (seen : List Origin)
      (x y : KeptFormulas) → origins ≡ seen ++ os → AllZip IsMet os fs → Keeps depth os fs x y
      → IsRight seen x → IsRight origins y
  right_all [] [] seen x y is met keeps right =
      subst (λ os. IsRight os y) (sym (is ∙ append-nil seen))
      (subst (IsRight seen) (sym keeps) right)
  right_all [] (f ∷ fs) seen x y is met keeps right = absurd keeps
  right_all (o ∷ os) [] seen x y is met keeps right = absurd keeps
  right_all (o ∷ os) (f ∷ fs) seen x y is met keeps right =
      right_all os fs (seen ++ o ∷ []) keeps.0 y
      (is ∙ sym (append_assoc seen (o ∷ []) os)) met.1 keeps.2
      (right_next seen os o f x keeps.0 is met.0 keeps.1 right)
