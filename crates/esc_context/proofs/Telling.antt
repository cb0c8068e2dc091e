-- A branch that was left open shows a counterexample.
use Rattle.std.proofs.Common.{◌≡◌, List, ap, sym, subst, ◌∙◌}
use Rattle.std.specs.List.{All}
use Rattle.esc_term.specs.declared.formula.Item.{Item}
use Rattle.esc_term.specs.declared.term.Sym.{Sym}
use Rattle.esc_cover.specs.Arithmetic.{play_of}
use Rattle.esc_cover.specs.Counterexample.{AreValues}
use Rattle.esc_cover.specs.Counterexample.{Counterexample as IsCounterexample}
use Rattle.esc_fact.specs.Fact.{formulas_of}
use Rattle.esc_fact.specs.declared.base.Base.{Base}
use Rattle.esc_fact.specs.declared.fact.Fact.{Fact}
use Rattle.esc_simplex.proofs.Points.{sample_allowed}
use Rattle.esc_simplex.specs.declared.simplex.Simplex.{Simplex}
use Rattle.esc_sharing.specs.ModelLaws.{AdmitsWhatSuits, ConsistentStays, LeastStays, PartedStays}
use Rattle.esc_sharing.specs.ModelLaws.{SatisfiesStays}
use Rattle.esc_sharing.specs.Nodes.{classes_in}
use Rattle.esc_sharing.specs.Shared.{literals_in, play_in}
use Rattle.esc_sharing.specs.declared.sharing.Sharing.{Sharing}
use Rattle.esc_outcome.specs.Found.{members_of, values_of}
use Rattle.esc_outcome.specs.Labels.{labels_of}
use Rattle.esc_outcome.specs.declared.counterexample.Class.{Class}
use Rattle.esc_context.specs.ClassesInside.{HasSample}
use Rattle.esc_context.specs.Left.{IsLeft, Tells, shared_of}
use Rattle.esc_context.proofs.ClassValues.{values_for}

-- what holds of literals with and without quantified formulas
pub record Laws : Type 0 where
  pub least : LeastStays
  pub consistent : ConsistentStays
  pub satisfies : SatisfiesStays
  pub parted : PartedStays

module _ (base : Base) (s : Sharing Simplex) (live : List Fact) (literals : List Item)
    (left : IsLeft base s live literals) (laws : Laws) (admits : AdmitsWhatSuits (shared_of s))
    (classes : List Class) (shown : members_of classes ≡ classes_in s.graph)
    (sampled : All (HasSample s) classes) where
  values_are : AreValues literals (play_of (formulas_of base live)).numbers (members_of classes)
      (values_of classes)
  values_are =
      let found = sample_allowed s.theory left.shared.parts.sound in
      let suits = (admits.suits found.0).0 found.1 in
      record {
        assignment = found.0;
        satisfies = laws.satisfies (literals_in (shared_of s)) literals left.asserted found.0
            suits.satisfies;
        shown = values_for s left.shared found.0 suits found.2
            (play_of (formulas_of base live)).numbers left.play.numbers classes shown sampled;
      }

  pub shows : IsCounterexample literals (members_of classes) (values_of classes)
      (formulas_of base live)
  shows = subst (λ cs. IsCounterexample literals cs (values_of classes) (formulas_of base live))
      (sym shown) (record {
        least = laws.least (literals_in (shared_of s)) literals (play_in (shared_of s))
            (play_of (formulas_of base live)) (classes_in s.graph) left.asserted left.play
            left.shared.least;
        consistent = laws.consistent (literals_in (shared_of s)) literals (classes_in s.graph)
            left.asserted left.one_sign left.shared.consistent;
        values_are = subst (λ cs. AreValues literals (play_of (formulas_of base live)).numbers cs
            (values_of classes)) shown values_are;
        parted = laws.parted (literals_in (shared_of s)) literals (play_in (shared_of s))
            (play_of (formulas_of base live)) (classes_in s.graph) left.asserted left.play
            admits.parted;
        covered = left.covered;
        literals_are = left.are_literals;
      })

  -- what is told of it, by copies of its facts and literals
  pub tells : (facts : List Fact) (copies : List Item) (names : List Sym) → facts ≡ live
      → copies ≡ literals
      → names ≡ labels_of literals (classes_in s.graph) (formulas_of base live)
      → Tells base s live literals
      (record { facts = facts; literals = copies; classes = classes; labels = names })
  tells facts copies names same alike are = record {
    facts = same;
    literals_are = alike;
    classes = shown;
    counterexample = subst (λ fs. IsCounterexample copies (members_of classes) (values_of classes)
        (formulas_of base fs)) (sym same)
        (subst (λ items. IsCounterexample items (members_of classes) (values_of classes)
        (formulas_of base live)) (sym alike) shows);
    labels = are ∙ (ap (λ cs. labels_of literals cs (formulas_of base live)) (sym shown)
        ∙ (ap (λ items. labels_of items (members_of classes) (formulas_of base live)) (sym alike)
        ∙ ap (λ fs. labels_of copies (members_of classes) (formulas_of base fs)) (sym same)));
  }
