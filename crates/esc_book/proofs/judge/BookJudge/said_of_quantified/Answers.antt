use Rattle.std.proofs.Common.{◌≡◌, ◌<◌, ◌≤◌, false, List, Some, length, get_or, take, ap, refl}
use Rattle.std.proofs.Common.{subst, sym, ◌∙◌}
use Rattle.std.proofs.lemmas.List.{get_or_default, take_all}
use Rattle.std.proofs.lemmas.List.Elements.{All-get_or}
use Rattle.esc_term.specs.declared.formula.Formula.{Formula}
use Rattle.esc_clause.specs.Occurrences.{formula_at}
use Rattle.esc_clause.specs.declared.occurrence.Occurrence.{Occurrence}
use Rattle.esc_cover.proofs.TestLemmas.{not_both}
use Rattle.esc_cover.specs.Cover.{by_literal}
use Rattle.esc_said.specs.Speaking.{SaysAs}
use Rattle.esc_book.specs.Book.{IsLiveOccurrence, items_of}
use Rattle.esc_book.proofs.Quantified.{literal_past, literal_same, some_there}
use Rattle.esc_book.proofs.judge.BookJudge.said_of_quantified.Goals.{then-is_at, else-is_at}
use Rattle.esc_book.proofs.judge.BookJudge.said_of_quantified.Goals as goal

pub literals-init : goal.literals-init
literals-init c = record { so_far = λ quantified. record { holds = refl; fails = refl } }

pub literals-preserved : goal.literals-preserved
literals-preserved c = record {
  so_far = λ quantified.
      let v = c.args.self.now.book.now in
      let f : Formula = c.args.formula.now in
      let ats : List Occurrence = c.args.self.now.literals.now in
      let i = c.literals.literal-index in
      let none : Occurrence = record { fact = 0; place = 0; positive = false } in
      let at : Occurrence = get_or c.as_slice-literal-items.result.now i none in
      let l : i < length ats =
      subst (λ (xs : List Occurrence). i < length xs) c.as_slice-literal-items.ensures
      c.literals-test.true in
      let at_is : at ≡ get_or ats i at =
      ap (λ (xs : List Occurrence). get_or xs i none) c.as_slice-literal-items.ensures
      ∙ get_or_default ats i none at l in
      let live : IsLiveOccurrence v at =
      subst (IsLiveOccurrence v) (sym at_is)
      (All-get_or (IsLiveOccurrence v) ats i at l c.requires.ready.live) in
      let there = some_there (formula_at v.logged at) live.there in
      let test = c.is_at.ensures quantified live in
      let was = c.literals.invariant.so_far quantified in
      elim c.if-is_at.branch [
        | then-is_at w ↦
            let same : there.0 ≡ f =
            let both : Some there.0 ≡ Some f = sym there.1 ∙ test.0 w.if-is_at.true in cc in
            literal_same v f ats i at there.0 l at_is there.1 c.literals.said c.if-is_at.said same
            was (ap (λ s. s.holds) w.said-is ∙ w.with_sign-said.ensures.holds)
            (ap (λ s. s.fails) w.said-is ∙ w.with_sign-said.ensures.fails)
        | else-is_at w ↦
            literal_past v f ats i at there.0 l at_is there.1 c.literals.said c.if-is_at.said
            (λ e. not_both c.is_at.result
            (test.1 (there.1 ∙ ap (λ x. Some x) e)) w.if-is_at.false)
            was (ap (λ s. s.holds) w.said-is) (ap (λ s. s.fails) w.said-is)
      ];
}

pub returns : goal.returns
returns c quantified =
    let v = c.args.self.now.book.now in
    let ats : List Occurrence = c.args.self.now.literals.now in
    let whole : take c.literals.literal-index ats ≡ ats =
    take_all c.literals.literal-index ats
    (subst (λ (xs : List Occurrence). length xs ≤ c.literals.literal-index)
    c.as_slice-literal-items.ensures c.literals-test.false) in
    subst (λ (xs : List Occurrence). SaysAs c.literals.said
    (by_literal (items_of v xs) c.args.formula.now)) whole
    (c.literals.invariant.so_far quantified)
