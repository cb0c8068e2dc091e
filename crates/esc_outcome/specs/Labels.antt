-- The labels that tell why a counterexample is one.
use Rattle.std.specs.Prelude.{◌==◌, Bool, List, [], ◌∷◌, ◌++◌, if◌then◌else◌}
use Rattle.std.specs.List.{flat_map, fold, list_any}
use Rattle.esc_term.specs.declared.term.Sym.{Sym}
use Rattle.esc_term.specs.declared.term.Term.{Term}
use Rattle.esc_term.specs.declared.formula.Formula.{Formula}
use Rattle.esc_term.specs.declared.formula.Formula.TheOpen.{Formula-F}
use Rattle.esc_term.specs.declared.formula.Formula.TheFolds.{para-Formula}
use Rattle.esc_term.specs.declared.formula.Item.{Item}
use Rattle.esc_term.specs.declared.formula.Quant.{Quant}
use Rattle.esc_cover.specs.Cover.{cover}

-- the name where it is told, and then the names behind it
abbrev pub told_if : Bool → Sym → List Sym → List Sym
told_if told name names = if told then name ∷ names else names

abbrev pub labels_step : List Item → List (List Term)
    → Formula-F (Formula × List Sym) (Quant × Unit) → List Sym
labels_step literals classes (Formula-F.And parts) = flat_map (λ part. part.1) parts
labels_step literals classes (Formula-F.Or parts) = flat_map (λ part. part.1) parts
labels_step literals classes (Formula-F.Not part) = part.1
labels_step literals classes (Formula-F.Implies left right) = left.1 ++ right.1
labels_step literals classes (Formula-F.Iff left right) = left.1 ++ right.1
labels_step literals classes (Formula-F.LabelPos name part) =
    told_if (cover literals classes part.0).holds name part.1
labels_step literals classes (Formula-F.LabelNeg name part) =
    told_if (cover literals classes part.0).fails name part.1
labels_step literals classes Formula-F.True = []
labels_step literals classes Formula-F.False = []
labels_step literals classes (Formula-F.Forall quant) = []
labels_step literals classes (Formula-F.Exists quant) = []
labels_step literals classes (Formula-F.Eq s t) = []
labels_step literals classes (Formula-F.Less s t) = []
labels_step literals classes (Formula-F.Distinct ts) = []

-- the names, from the front, of the positive labels of what is covered as holding and of the
-- negative ones of what is covered as failing, outside quantified formulas
unfoldable pub labels_in : List Item → List (List Term) → Formula → List Sym
labels_in literals classes =
    para-Formula (List Sym) Unit (labels_step literals classes) (λ quant. tt)

abbrev pub with_name_once : List Sym → Sym → List Sym
with_name_once seen name =
    if list_any (λ other. other.0 == name.0) seen then seen else seen ++ name ∷ []

-- those of the formulas, each once
abbrev pub labels_of : List Item → List (List Term) → List Formula → List Sym
labels_of literals classes fs = fold with_name_once [] (flat_map (labels_in literals classes) fs)
