-- What was expanded stays so.
use Rattle.std.proofs.Common.{◌≡◌, Bool, true, false, List, ◌++◌, Option, Some, None, ap, sym, subst}
use Rattle.std.proofs.Common.{◌∙◌, if◌then◌else◌}
use Rattle.std.specs.Prelude.{IsTrue}
use Rattle.std.specs.List.{All, Contains, filter}
use Rattle.std.specs.Option.{IsSome, IsSomeAnd}
use Rattle.esc_term.specs.declared.term.Term.{Term}
use Rattle.esc_term.specs.declared.formula.Formula.{Formula}
use Rattle.esc_term.specs.declared.formula.Item.{Item}
use Rattle.esc_cover.specs.Arithmetic.{InPlay}
use Rattle.esc_cover.specs.Counterexample.{IsConsistent}
use Rattle.esc_cover.specs.Cover.{cover}
use Rattle.esc_cover.specs.Laws.{GoesFurther}
use Rattle.esc_cover.specs.Least.{IsLeast}
use Rattle.esc_cover.proofs.Stays.{cover_stays}
use Rattle.esc_clause.specs.Laws.{IsCovered, IsSo}
use Rattle.esc_clause.specs.Occurrences.{item_at}
use Rattle.esc_clause.specs.declared.occurrence.Occurrence.{Occurrence}
use Rattle.esc_live.specs.Expanded.{IsExpanded, IsKept}
use Rattle.esc_live.specs.Expanded.IsExpanded.{covered, parts, split}

some_kept : (P Q : Item → Type 0) → ((item : Item) → P item → Q item) → (o : Option Item)
    → IsSomeAnd o P → IsSomeAnd o Q
some_kept P Q kept (Some item) h = kept item h
some_kept P Q kept None h = h

pub so_kept : (P Q : Item → Type 0) → ((item : Item) → P item → Q item) → (fs : List Formula)
    (at : Occurrence) → IsSo P fs at → IsSo Q fs at
so_kept P Q kept fs at = some_kept P Q kept (item_at fs at)

-- ---- what is covered stays covered

pub covered_stays : (literals more : List Item) (play : InPlay) (classes coarser : List (List Term))
    → GoesFurther literals classes more coarser → IsLeast more play coarser
    → IsConsistent more coarser → (item : Item) → IsCovered literals classes item
    → IsCovered more coarser item
covered_stays literals more play classes coarser further least consistent item =
    let said = cover_stays literals more play classes coarser further least consistent item.formula
    in
    elim item.positive as (λ p. IsTrue (if p then (cover literals classes item.formula).holds
    else (cover literals classes item.formula).fails)
    → IsTrue (if p then (cover more coarser item.formula).holds
    else (cover more coarser item.formula).fails)) [ true ↦ said.holds | false ↦ said.fails ]

-- ---- what was expanded stays so

module _ (fs : List Formula) (literals more : List Item) (classes coarser : List (List Term))
    (cs ds : List (List Occurrence))
    (so : (at : Occurrence) → IsSo (IsCovered literals classes) fs at
    → IsSo (IsCovered more coarser) fs at)
    (there : (c : List Occurrence) → Contains cs c → Contains ds c) where
  kept_stays : (c : List Occurrence) → IsKept cs c → IsKept ds c
  kept_stays c kept = record { test = kept.test; left = there (filter kept.test c) kept.left }

  pub expanded_stays : (at : Occurrence) → IsExpanded fs literals classes cs at
      → IsExpanded fs more coarser ds at
  expanded_stays at (covered _ h) = covered at (so at h)
  expanded_stays at (parts _ ps e each) = parts at ps e (λ p h. expanded_stays p (each p h))
  expanded_stays at (split _ clauses e each) =
      split at clauses e (λ c h. kept_stays c (each c h))
