-- Each change of the clauses, with the record that takes it back.
use Rattle.std.proofs.Common.{◌≡◌, ℕ, ◌<◌, true, false, List, [], ◌∷◌, ◌++◌, length, set, get_or}
use Rattle.std.proofs.Common.{ap, sym, ◌∙◌, arith, length-append}
use Rattle.std.proofs.lemmas.List.{set-set, set-get_or, get_or-set_same, length-set}
use Rattle.esc_trail.specs.Undo.{Notes}
use Rattle.esc_trail.proofs.Ends.{take-append_last}
use Rattle.esc_trail.proofs.Noting.{notes_one}
use Rattle.esc_clause.specs.ClauseContext.{Clause, ClauseContext, no_clause}
use Rattle.esc_clause.specs.ClausesUndo.{clauses_undo, member_at, no_member, with_gone}
use Rattle.esc_clause.specs.PassesInside.{clause_at, with_clause}
use Rattle.esc_clause.specs.declared.decision.Decision.{Decision}
use Rattle.esc_clause.specs.declared.member.Member.{Member}
use Rattle.esc_clause.specs.declared.record.ClauseRec.{ClauseRec}
use Rattle.esc_clause.specs.declared.record.ClauseRec.TheVariants.{Added, Dropped, Decided}

pub notes_added : {Whole : Type 0} (carry : ClauseRec → Whole) (before after : List Whole)
    (entry exit : ClauseContext) (c : Clause) →
    exit ≡ record entry { clauses = entry.clauses ++ (c ∷ []) }
    → after ≡ before ++ (carry Added ∷ []) →
    Notes clauses_undo carry before after entry exit
notes_added carry before after entry exit c is noted =
    rw is (notes_one clauses_undo carry before after entry
    (record entry { clauses = entry.clauses ++ (c ∷ []) }) Added noted
    (omega (arith, length-append entry.clauses (c ∷ [])))
    (ap (λ cs. record entry { clauses = cs }) (take-append_last entry.clauses c)))

pub notes_decided : {Whole : Type 0} (carry : ClauseRec → Whole) (before after : List Whole)
    (entry exit : ClauseContext) (d : Decision) →
    exit ≡ record entry { decisions = entry.decisions ++ (d ∷ []) }
    → after ≡ before ++ (carry Decided ∷ []) →
    Notes clauses_undo carry before after entry exit
notes_decided carry before after entry exit d is noted =
    rw is (notes_one clauses_undo carry before after entry
    (record entry { decisions = entry.decisions ++ (d ∷ []) }) Decided noted
    (omega (arith, length-append entry.decisions (d ∷ [])))
    (ap (λ ds. record entry { decisions = ds }) (take-append_last entry.decisions d)))

-- ---- an item goes

-- what went and comes back leaves the clause as it was
with_gone-back : (c : Clause) (place : ℕ) → place < length c → (member_at c place).gone ≡ false
    → with_gone (with_gone c place true) place false ≡ c
with_gone-back c place l here =
    let m = member_at c place in
    let went : Member = record { item = m.item; gone = true } in
    ap (λ n. set (set c place went) place (record { item = n.item; gone = false }))
    (get_or-set_same c place went no_member l)
    ∙ set-set c place went (record { item = m.item; gone = false })
    ∙ ap (λ g. set c place (record { item = m.item; gone = g })) (sym here)
    ∙ set-get_or c place no_member

pub notes_dropped : {Whole : Type 0} (carry : ClauseRec → Whole) (before after : List Whole)
    (entry exit : ClauseContext) (at place : ℕ)
    → exit ≡ with_clause entry at (with_gone (clause_at entry at) place true)
    → after ≡ before ++ (carry (Dropped at place) ∷ []) → at < length entry.clauses
    → place < length (clause_at entry at) → (member_at (clause_at entry at) place).gone ≡ false
    → Notes clauses_undo carry before after entry exit
notes_dropped carry before after entry exit at place left noted there within here =
    let c = clause_at entry at in
    let thinner = with_gone c place true in
    let went : Member = record { item = (member_at c place).item; gone = true } in
    let same : get_or (set entry.clauses at thinner) at no_clause ≡ thinner =
    get_or-set_same entry.clauses at thinner no_clause there in
    rw left (notes_one clauses_undo carry before after entry (with_clause entry at thinner)
    (Dropped at place) noted
    (record {
      there = omega (arith, there, length-set entry.clauses at thinner);
      within = rw same (omega (
        arith,
        within,
        length-set c place went,
      ));
      gone = rw same (ap (λ (m : Member). m.gone) (get_or-set_same c place went no_member within));
    })
    (ap (λ d. with_clause (with_clause entry at thinner) at (with_gone d place false)) same
    ∙ (ap (λ d. with_clause (with_clause entry at thinner) at d)
    (with_gone-back c place within here)
    ∙ ap (λ cs. record entry { clauses = cs })
    (set-set entry.clauses at thinner c ∙ set-get_or entry.clauses at no_clause))))
