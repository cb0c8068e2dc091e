-- How clauses take records back.
use Rattle.std.specs.Prelude.{◌≡◌, ℕ, ◌-◌, ◌<◌, Bool, true, false, length, take}
use Rattle.std.specs.Prelude.{slice_index_or, slice_set}
use Rattle.esc_trail.specs.Undo.{Undo}
use Rattle.esc_clause.specs.ClauseContext.{Clause, ClauseContext, new_member, no_clause}
use Rattle.esc_clause.specs.declared.member.Member.{Member}
use Rattle.esc_clause.specs.declared.record.ClauseRec.{ClauseRec}
use Rattle.esc_clause.specs.declared.record.ClauseRec.TheVariants.{Added, Dropped, Decided}

-- what stands where no item does
abbrev pub no_member : Member
no_member = new_member (record { fact = 0; place = 0; positive = false })

abbrev pub member_at : Clause → ℕ → Member
member_at c place = slice_index_or c place no_member

-- the clause with another word on whether the item at a place has gone
abbrev pub with_gone : Clause → ℕ → Bool → Clause
with_gone c place gone =
    slice_set c place (record { item = (member_at c place).item; gone = gone })

-- without the last clause, with an item left again in a clause, or without the last decision
abbrev pub clauses_back : ClauseContext → ClauseRec → ClauseContext
clauses_back v Added = record v { clauses = take (length v.clauses - 1) v.clauses }
clauses_back v (Dropped at place) =
    record v {
      clauses = slice_set v.clauses at
          (with_gone (slice_index_or v.clauses at no_clause) place false);
    }
clauses_back v Decided = record v { decisions = take (length v.decisions - 1) v.decisions }

-- the clause is there and has the place, and the item there has gone
pub record HasGone (v : ClauseContext) (at place : ℕ) : Type 0 where
  pub there : at < length v.clauses
  pub within : place < length (slice_index_or v.clauses at no_clause)
  pub gone : (member_at (slice_index_or v.clauses at no_clause) place).gone ≡ true

abbrev pub CanGoBack : ClauseContext → ClauseRec → Type 0
CanGoBack v Added = 0 < length v.clauses
CanGoBack v (Dropped at place) = HasGone v at place
CanGoBack v Decided = 0 < length v.decisions

abbrev pub clauses_undo : Undo ClauseContext ClauseRec
clauses_undo = record { back = clauses_back; can = CanGoBack; same = λ a b. a ≡ b }
