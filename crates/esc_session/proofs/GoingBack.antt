-- A pop goes back to before its push.
use Rattle.std.proofs.Common.{◌≡◌, List, [], ◌∷◌, ◌++◌, reverse, sym, ap, subst, ◌∙◌}
use Rattle.std.proofs.Common.{append_assoc, append-nil, None, Some}
use Rattle.std.proofs.lemmas.List.{append_cancel_left, reverse-append}
use Rattle.esc_term.specs.declared.formula.Formula.{Formula}
use Rattle.esc_form.specs.declared.command.Kind.{Kind}
use Rattle.esc_form.specs.declared.command.Kind.TheVariants as kind
use Rattle.esc_report.specs.declared.report.Report.{Report}
use Rattle.esc_report.specs.declared.report.Report.TheVariants as report
use Rattle.esc_search.specs.declared.search.Search.{Search}
use Rattle.esc_session.specs.Acts.{Acts, Does, Drops, Joins, Rests}
use Rattle.esc_session.specs.Back.{BeforeStanding, IsAgain, LeadsBack}
use Rattle.esc_session.specs.Laws.{IsFront, LeadsAbove, PopsGoBack}
use Rattle.esc_session.specs.declared.batch.Batch.{Batch}
use Rattle.esc_session.specs.declared.batch.Standing.{Standing}
use Rattle.esc_session.specs.declared.batch.Standing.TheVariants.{Asserted, Behind, Closed}
use Rattle.esc_session.specs.declared.batch.Standing.TheVariants.{Stopped}
use Rattle.esc_session.specs.declared.session.Session.{Session}
use Rattle.esc_session.proofs.Again.{leads_again}

before_alike : (s : Search) (standing : Standing) (P Q : Search → Type 0)
    → ((u : Search) → P u → Q u) → BeforeStanding s standing P → BeforeStanding s standing Q
before_alike s (Asserted level) P Q each (there, begun, goes, h) =
    (there, begun, goes, each there h)
before_alike s (Closed level) P Q each (there, begun, goes, h) =
    (there, begun, goes, each there h)
before_alike s (Stopped cause) P Q each h = each s h
before_alike s Behind P Q each h = each s h

-- one batch leads back to where others lead further back
leads_then : (s t u : Search) (b : Batch) (older : List Batch) → LeadsBack s (b ∷ []) t
    → LeadsBack t older u → LeadsBack s (b ∷ older) u
leads_then s t u b older h further =
    before_alike s b.standing (λ v. LeadsBack v [] t) (λ v. LeadsBack v older u)
    (λ v again. leads_again t v again older u further) h

turn : (left : List Batch) (push : Batch) (rules : List Batch)
    → reverse (left ++ push ∷ rules) ≡ reverse rules ++ push ∷ reverse left
turn left push rules =
    reverse-append left (push ∷ rules)
    ∙ (ap (λ (bs : List Batch). bs ++ reverse left) (reverse-append (push ∷ []) rules)
    ∙ append_assoc (reverse rules) (push ∷ []) (reverse left))

module _ (before : Session) (batch : Batch) where
  abbrev floor : List Batch
  floor = before.batches ++ batch ∷ []

  -- these batches came since, and ending them and the push leads back to before it
  record IsSince (s : Session) : Type 0 where
    newer : List Batch
    batches : s.batches ≡ floor ++ newer
    back : LeadsBack s.search (reverse newer ++ batch ∷ []) before.search

  since_rests : (s t : Session) → Rests s t → IsSince s → IsSince t
  since_rests s t rests h = record {
    newer = h.newer;
    batches = rests.batches ∙ h.batches;
    back = leads_again s.search t.search rests.search (reverse h.newer ++ batch ∷ [])
        before.search h.back;
  }

  since_joins : (s t : Session) (predicate : _) (fs : List Formula) → Joins s t predicate fs
      → IsSince s → IsSince t
  since_joins s t predicate fs joins h = record {
    newer = h.newer ++ joins.batch ∷ [];
    batches = joins.batches ∙ (ap (λ (bs : List Batch). bs ++ joins.batch ∷ []) h.batches
        ∙ append_assoc floor h.newer (joins.batch ∷ []));
    back = subst (λ (bs : List Batch). LeadsBack t.search (bs ++ batch ∷ []) before.search)
        (sym (reverse-append h.newer (joins.batch ∷ [])))
        (leads_then t.search s.search before.search joins.batch (reverse h.newer ++ batch ∷ [])
        joins.search h.back);
  }

  since_drops : (s t : Session) → Drops s t → IsFront floor t.batches → IsSince s → IsSince t
  since_drops s t drops (left, front) h =
      let came : h.newer ≡ left ++ drops.push ∷ drops.rules =
      append_cancel_left floor h.newer (left ++ drops.push ∷ drops.rules)
      (sym h.batches ∙ (drops.batches
      ∙ (ap (λ (bs : List Batch). bs ++ drops.push ∷ drops.rules) front
      ∙ append_assoc floor left (drops.push ∷ drops.rules)))) in
      let turned : reverse h.newer ++ batch ∷ []
      ≡ reverse drops.rules ++ drops.push ∷ (reverse left ++ batch ∷ []) =
      ap (λ (bs : List Batch). reverse bs ++ batch ∷ []) came
      ∙ (ap (λ (bs : List Batch). bs ++ batch ∷ []) (turn left drops.push drops.rules)
      ∙ append_assoc (reverse drops.rules) (drops.push ∷ reverse left) (batch ∷ [])) in
      record {
        newer = left;
        batches = front;
        back = drops.search (reverse left ++ batch ∷ []) before.search
            (subst (λ (bs : List Batch). LeadsBack s.search bs before.search) turned h.back);
      }

  since_does : (k : Kind) (s t : Session) → Does k s t → IsFront floor t.batches → IsSince s
      → IsSince t
  since_does (kind.Goal f) s t does front h = since_rests s t does h
  since_does (kind.Push fs) s t does front h = since_joins s t None fs does h
  since_does kind.Pop s t does front h = since_drops s t does front h
  since_does (kind.Define name count place (Some rule)) s t does front h =
      since_joins s t (Some (name, count)) (rule ∷ []) does h
  since_does (kind.Define name count place None) s t does front h = since_rests s t does h
  since_does kind.Prompt s t does front h = since_rests s t does h

  since_acts : (k : Kind) (r : Report) (s t : Session) → Acts k r s t → IsFront floor t.batches
      → IsSince s → IsSince t
  since_acts k report.Done s t acts front h = since_does k s t acts front h
  since_acts k (report.Valid goal log formulas) s t acts front h = since_rests s t acts h
  since_acts k (report.Invalid goal found) s t acts front h = since_rests s t acts h
  since_acts k (report.Unknown goal cause) s t acts front h = since_rests s t acts h
  since_acts k (report.Refused place why) s t acts front h = since_rests s t acts h
  since_acts k (report.Memory goal place) s t acts front h = since_rests s t acts h

  since_all : (steps : List (Kind × Report)) (s u : Session) → LeadsAbove floor steps s u
      → IsSince s → IsSince u
  since_all [] s u same h = subst IsSince same h
  since_all ((k, r) ∷ more) s u (t, acts, front, leads) h =
      since_all more t u leads (since_acts k r s t acts front h)

  -- the pop that ends the push
  back_before : (now popped : Session) → IsSince now → Drops now popped
      → popped.batches ≡ before.batches → IsAgain before.search popped.search
  back_before now popped h drops same =
      let came : batch ∷ h.newer ≡ drops.push ∷ drops.rules =
      append_cancel_left before.batches (batch ∷ h.newer) (drops.push ∷ drops.rules)
      (sym (append_assoc before.batches (batch ∷ []) h.newer)
      ∙ (sym h.batches ∙ (drops.batches
      ∙ ap (λ (bs : List Batch). bs ++ drops.push ∷ drops.rules) same))) in
      let turned : reverse h.newer ++ batch ∷ [] ≡ reverse drops.rules ++ drops.push ∷ [] =
      sym (reverse-append (batch ∷ []) h.newer)
      ∙ (ap reverse came ∙ reverse-append (drops.push ∷ []) drops.rules) in
      drops.search [] before.search
      (subst (λ (bs : List Batch). LeadsBack now.search bs before.search) turned h.back)

pub pops_go_back : PopsGoBack
pops_go_back before pushed now popped fs since joins leads drops same =
    let floor_is : pushed.batches ≡ before.batches ++ joins.batch ∷ [] = joins.batches in
    let first : IsSince before joins.batch pushed = record {
      newer = [];
      batches = floor_is ∙ sym (append-nil (before.batches ++ joins.batch ∷ []));
      back = joins.search;
    } in
    back_before before joins.batch now popped
    (since_all before joins.batch since pushed now
    (subst (λ (bs : List Batch). LeadsAbove bs since pushed now) floor_is leads) first)
    drops same
