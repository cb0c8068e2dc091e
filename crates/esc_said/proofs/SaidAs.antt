-- What is said as literals and classes say it of equations, orders and distinctions.
use Rattle.std.proofs.Common.{◌≡◌, true, false, List, sym, subst}
use Rattle.esc_term.specs.declared.term.Term.{Term}
use Rattle.esc_term.specs.declared.formula.Formula.TheVariants as formula
use Rattle.esc_term.specs.declared.formula.Item.{Item}
use Rattle.esc_cover.specs.Classes.{together}
use Rattle.esc_cover.specs.Cover.{cover, every_two, is_forced_apart, is_literal, some_two}
use Rattle.esc_cover.proofs.CoverLevels.{cover-Distinct, cover-Eq, cover-Less}
use Rattle.esc_said.specs.Speaking.{SaysAs}
use Rattle.esc_said.specs.declared.said.Said.{Said}

module _ (said : Said) (literals : List Item) (classes : List (List Term)) where
  pub SaysAs-Eq : (s t : Term) → said.holds ≡ together classes s t
      → said.fails ≡ is_forced_apart literals classes s t
      → SaysAs said (cover literals classes (formula.Eq s t))
  SaysAs-Eq s t h f = subst (SaysAs said) (sym (cover-Eq literals classes s t))
      (record { holds = h; fails = f })

  pub of_SaysAs-Eq : (s t : Term) → SaysAs said (cover literals classes (formula.Eq s t))
      → (said.holds ≡ together classes s t) × (said.fails ≡ is_forced_apart literals classes s t)
  of_SaysAs-Eq s t says =
      let read = subst (SaysAs said) (cover-Eq literals classes s t) says in
      (read.holds, read.fails)

  pub SaysAs-Less : (s t : Term) → said.holds ≡ is_literal literals (formula.Less s t) true
      → said.fails ≡ is_literal literals (formula.Less s t) false
      → SaysAs said (cover literals classes (formula.Less s t))
  SaysAs-Less s t h f = subst (SaysAs said) (sym (cover-Less literals classes s t))
      (record { holds = h; fails = f })

  pub SaysAs-Distinct : (ts : List Term)
      → said.holds ≡ every_two (is_forced_apart literals classes) ts
      → said.fails ≡ some_two (together classes) ts
      → SaysAs said (cover literals classes (formula.Distinct ts))
  SaysAs-Distinct ts h f = subst (SaysAs said) (sym (cover-Distinct literals classes ts))
      (record { holds = h; fails = f })
