-- What is judged of an occurrence, by what stands at its place.
use Rattle.std.proofs.Common.{◌≡◌, ℕ, ◌<◌, Bool, true, false, List, Some, None, Option, length}
use Rattle.std.proofs.Common.{get_or, if◌then◌else◌, refl, ap, sym, subst, ◌∙◌}
use Rattle.std.proofs.lemmas.List.Elements.{All-get_or, Contains-get_or}
use Rattle.std.proofs.lemmas.Option.{slice_get-get_or}
use Rattle.std.specs.List.{Contains, slice_get}
use Rattle.std.specs.Option.{option_and_then, option_map, option_map_or}
use Rattle.esc_term.specs.declared.formula.Formula.{Formula}
use Rattle.esc_term.specs.declared.formula.Formula.TheVariants as formula
use Rattle.esc_clause.specs.Occurrences.{formula_at, occurrences_of, signed}
use Rattle.esc_clause.specs.declared.occurrence.Occurrence.{Occurrence}
use Rattle.esc_clause.specs.declared.truth.Truth.TheVariants.{Open}
use Rattle.esc_egraph.specs.Graph.{Graph}
use Rattle.esc_book.specs.Book.{BookView, IsBook, IsPage, Page, is_live}
use Rattle.esc_book.specs.Judging.{classes_for, item_truth, judged_by_book, literals_for, truth_at}
use Rattle.esc_book.specs.JudgingInside.{IsPageOf, cover_by, truth_by}
use Rattle.esc_book.specs.declared.judge.BookJudge.{BookJudge}
use Rattle.esc_book.proofs.Indexing.{contains_any}
use Rattle.esc_book.proofs.Reading.{get-within}

get-same : {X : Type 0} (xs : List X) (i : ℕ) (x : X) → slice_get xs i ≡ Some x
    → get_or xs i x ≡ x
get-same xs i x e =
    let both : Some (get_or xs i x) ≡ Some x =
    sym (slice_get-get_or xs i x (get-within xs i x e)) ∙ e in cc

-- ---- the table of a live fact

module _ (v : BookView) (fact : ℕ) (page : Page) (of : IsPageOf v fact page) where
  pub page-live : is_live v fact ≡ true
  page-live =
      contains_any v.live fact
      (subst (Contains v.live) (get-same v.live of.index fact of.live)
      (Contains-get_or v.live of.index fact (get-within v.live of.index fact of.live)))

  -- the formula of the fact
  pub record IsFact (g : Graph) : Type 0 where
    pub whole : Formula
    pub there : slice_get v.logged fact ≡ Some whole
    pub is_page : IsPage g whole page

  pub page-fact : (g : Graph) → IsBook g v → IsFact g
  page-fact g book =
      let l : fact < length v.logged =
      subst (λ n. n < length v.logged) (get-same v.live of.index fact of.live)
      (All-get_or (λ n. n < length v.logged) v.live of.index fact
      (get-within v.live of.index fact of.live) book.within) in
      let f : Formula = get_or v.logged fact formula_none in
      let there : slice_get v.logged fact ≡ Some f =
      slice_get-get_or v.logged fact formula_none l in
      record {
        whole = f;
        there = there;
        is_page = book.written of.index fact f page of.live there of.written;
      }
    where
      formula_none : Formula
      formula_none = formula.True

formula_there : (fs : List Formula) (at : Occurrence) (f : Formula) (o : Option Formula)
    → slice_get fs at.fact ≡ Some f → slice_get (occurrences_of f) at.place ≡ o
    → formula_at fs at ≡ o
formula_there fs at f o there is =
    ap (option_and_then (λ h. slice_get (occurrences_of h) at.place)) there ∙ is

pub page-formula : (v : BookView) (g : Graph) (at : Occurrence) (page : Page)
    (of : IsPageOf v at.fact page) (fact : IsFact v at.fact page of g) (o : Option Formula)
    → slice_get (occurrences_of fact.whole) at.place ≡ o → formula_at v.logged at ≡ o
page-formula v g at page of fact o is = formula_there v.logged at fact.whole o fact.there is

-- ---- what is judged

module _ (j : BookJudge) (at : Occurrence) where
  truth_item : (f : Formula) (positive : Bool)
      → item_truth (literals_for j) (classes_for j) (signed positive f)
      ≡ truth_by (cover_by j f) positive
  truth_item f true = refl
  truth_item f false = refl

  pub judged-live : (o : Option Formula) → is_live j.book.now at.fact ≡ true
      → formula_at j.book.now.logged at ≡ o
      → judged_by_book j at ≡ option_map_or (λ f. truth_by (cover_by j f) at.positive) o Open
  judged-live o live is =
      ap (λ b. if b then truth_at j.book.now.logged (literals_for j) (classes_for j) at else Open)
      live
      ∙ (ap (λ p. option_map_or (item_truth (literals_for j) (classes_for j))
      (option_map (signed at.positive) p) Open) is ∙ each o)
    where
      each : (p : Option Formula) → option_map_or (item_truth (literals_for j) (classes_for j))
          (option_map (signed at.positive) p) Open
          ≡ option_map_or (λ f. truth_by (cover_by j f) at.positive) p Open
      each None = refl
      each (Some f) = truth_item f at.positive

  pub judged-dead : is_live j.book.now at.fact ≡ false → judged_by_book j at ≡ Open
  judged-dead dead =
      ap (λ b. if b then truth_at j.book.now.logged (literals_for j) (classes_for j) at else Open)
      dead
