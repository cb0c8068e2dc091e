-- What a judge says of formulas, and which labels it tells.
use Rattle.std.specs.Prelude.{◌≡◌, List, [], ◌∷◌, ◌++◌}
use Rattle.esc_term.specs.declared.formula.Formula.{Formula}
use Rattle.esc_term.specs.declared.formula.Item.{Item}
use Rattle.esc_term.specs.declared.term.Sym.{Sym}
use Rattle.esc_term.specs.declared.term.Term.{Term}
use Rattle.esc_cover.specs.Cover.{Cover, cover}
use Rattle.esc_sharing.specs.Nodes.{classes_in}
use Rattle.esc_said.specs.Speaking.{SpeaksFor}
use Rattle.esc_outcome.specs.Labels.{labels_in, told_if}
use Rattle.esc_context.specs.declared.judge.Judge.{Judge}
use Rattle.esc_context.specs.declared.labelled.Label.{Label}

abbrev pub classes_for : Judge → List (List Term)
classes_for j = classes_in j.saying.graph.now

abbrev pub literals_for : Judge → List Item
literals_for j = j.literals.now

-- its literals are spoken for
abbrev pub IsJudge : Judge → Type 0
IsJudge j = SpeaksFor j.saying (literals_for j)

abbrev pub cover_by : Judge → Formula → Cover
cover_by j = cover (literals_for j) (classes_for j)

-- ---- labels

-- the names of the labels that are told
abbrev pub told_names : List Label → List Sym
told_names [] = []
told_names (label ∷ labels) = told_if label.told label.name (told_names labels)

-- labels came behind the others, and those of them that are told have these names
pub record Labels (old new : List Label) (names : List Sym) : Type 0 where
  pub more : List Label
  pub behind : new ≡ old ++ more
  pub told : told_names more ≡ names

abbrev pub labels_by : Judge → Formula → List Sym
labels_by j = labels_in (literals_for j) (classes_for j)
