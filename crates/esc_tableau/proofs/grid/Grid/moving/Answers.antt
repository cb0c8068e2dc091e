use Rattle.std.proofs.Common.{◌≡◌, ℕ, Vec, Global, List, ◌+◌, ◌<◌, ◌++◌, ◌∷◌, [], sym, subst, ap, ◌∙◌, true≢false, arith, length}
use Rattle.std.specs.Prelude.{◌↔◌}
use Rattle.std.specs.List.{Contains}
use Rattle.esc_tableau.specs.Grid.{table_of}
use Rattle.esc_tableau.specs.Moving.{CanMove}
use Rattle.esc_tableau.proofs.MovingLaws.{moving_more, moving_still}
use Rattle.esc_tableau.proofs.grid.Grid.moving.Goals as goal
use Rattle.esc_tableau.proofs.grid.Grid.moving.Goals.{then-can_move+in_ok-push, else-can_move}

pub columns-preserved : goal.columns-preserved
columns-preserved c =
    let t = table_of c.args.self.now in
    let so = c.columns.invariant in
    elim c.if-can_move.branch [
      | then-can_move+in_ok-push w ↦
          let longer : c.if-can_move.moving.items ≡ c.columns.moving.items ++ c.columns.column ∷ []
          = ap (λ (v : Vec ℕ Global). v.items) w.moving-is ∙ w.in_ok-push.ensures.items in
          subst (λ (cs : List ℕ). (k : ℕ) → Contains cs k
          ↔ ((k < c.columns.column + 1) × CanMove t k)) (sym longer)
          (moving_more t c.columns.moving.items c.columns.column so
          (c.can_move.ensures.0 w.if-can_move.true))
      | else-can_move w ↦
          subst (λ (v : Vec ℕ Global). (k : ℕ) → Contains v.items k
          ↔ ((k < c.columns.column + 1) × CanMove t k)) (sym w.moving-is)
          (moving_still t c.columns.moving.items c.columns.column so
          (λ can. true≢false (sym (c.can_move.ensures.1 can) ∙ w.if-can_move.false)))
    ]

pub returns : goal.returns
returns c =
    let done : c.columns.column ≡ length c.args.self.now.columns.items = omega arith in
    subst (λ (n : ℕ). (k : ℕ) → Contains c.columns.moving.items k
    ↔ ((k < n) × CanMove (table_of c.args.self.now) k)) done c.columns.invariant
