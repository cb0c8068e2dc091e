-- A stop is a jam of the formulas that gave the arithmetic its terms.
use Rattle.std.proofs.Common.{◌≡◌, ◌≢◌, ◌↔◌, ℕ, List, [], ◌∷◌, ◌++◌, Option, Some, None, length}
use Rattle.std.proofs.Common.{take, drop, append_assoc, refl, sym, ap, subst, ◌∙◌, inl, inr, arith}
use Rattle.std.specs.List.{All, Contains, flat_map}
use Rattle.std.proofs.lemmas.List.{get_or_append_left, length-append, take-append-drop}
use Rattle.std.proofs.Math.Seq.{take-append_seam}
use Rattle.std.proofs.lemmas.List.Elements.{All-contains, All-push}
use Rattle.esc_term.specs.declared.term.Term.{Term}
use Rattle.esc_term.specs.declared.term.Term.TheVariants.{Num}
use Rattle.esc_term.specs.declared.formula.Formula.{Formula}
use Rattle.esc_term.specs.declared.formula.Item.{Item}
use Rattle.esc_rows.specs.Rows.{Point}
use Rattle.esc_tableau.specs.Listed.{tabled}
use Rattle.esc_tableau.specs.Table.{Table, IsWithin}
use Rattle.esc_tableau.specs.declared.answers.Step.{Step}
use Rattle.esc_tableau.specs.declared.answers.Step.TheVariants.{Row, Ratio, Pivot}
use Rattle.esc_tableau.specs.declared.listed.Rows.{Rows}
use Rattle.esc_cover.specs.Assignment.{Assignment, Gap, NoneNegative, asked}
use Rattle.esc_simplex.specs.Barred.{AreRowsAt, AreSensesAt, IsBarred, KeepsRows, KeptRunIsSpent}
use Rattle.esc_simplex.specs.Barred.{KeptStepJams, MayBeMade}
use Rattle.esc_simplex.specs.Senses.{IsPointOf, Sense, StandsFor, gap_of, sense_fraction, term}
use Rattle.esc_simplex.specs.Senses.{term_at}
use Rattle.esc_simplex.specs.SimplexLaws.{barred_more}
use Rattle.esc_simplex.specs.View.{Allows, numbers_in, senses_in}
use Rattle.esc_simplex.specs.declared.simplex.Simplex.{Simplex}
use Rattle.esc_simplex.specs.declared.stop.Stop.{Stop}
use Rattle.esc_simplex.specs.declared.stop.Stop.TheVariants as stop
use Rattle.esc_simplex.proofs.Gapped.{stands_for_made}
use Rattle.esc_simplex.proofs.Points.{allows_from, within_from}
use Rattle.esc_sharing.specs.Numbers.{IsGapOf, IsNumber, number_terms}
use Rattle.esc_sharing.specs.Shared.{AreToldIn, items_in, told_in}
use Rattle.esc_sharing.specs.Nodes.{node_term}
use Rattle.esc_sharing.specs.Stops.{UnlessMemory}
use Rattle.esc_sharing.specs.declared.sharing.Sharing.{Sharing}
use Rattle.esc_sharing.proofs.BoundNodes.{for_bound, term_is_number}
use Rattle.esc_sharing.proofs.Least.{number_of_node}
use Rattle.esc_sharing.proofs.LiteralSteps.{unless_weaker}
use Rattle.esc_sharing.proofs.Lists.{All-each, Contains-of_map}
use Rattle.esc_outcome.specs.Jam.{IsNumberOf, IsSenseOf, JamsAs, KeepsRowsOf, RestrictsAs}
use Rattle.esc_outcome.specs.Jam.{numbers_of}
use Rattle.esc_outcome.specs.JamLaws.{StopIsJam, StopsAt, meanings_in, shared_in, stuck_with}
use Rattle.esc_outcome.specs.Stopping.{StopsIsStopped}
use Rattle.esc_outcome.specs.declared.stuck.Meaning.{Meaning}
use Rattle.esc_outcome.specs.declared.stuck.Stuck.{Stuck}

-- ---- unknowns behind others

stands_behind : (senses : List Sense) (s : Sense) (u : ℕ) (e : Sense) → StandsFor senses u e
    → StandsFor (senses ++ s ∷ []) u e
stands_behind senses s u e h = record {
  there = omega (arith, h.there, length-append senses (s ∷ []));
  is = get_or_append_left senses (s ∷ []) (term (Num _)) u h.there ∙ h.is;
}

point_before : (senses : List Sense) (s : Sense) (x : Assignment) (p : Point)
    → IsPointOf (senses ++ s ∷ []) x p → IsPointOf senses x p
point_before senses s x p is u below =
    is u (omega (arith, below, length-append senses (s ∷ [])))
    ∙ ap (sense_fraction x) (get_or_append_left senses (s ∷ []) (term (Num _)) u below)

-- ---- another step

step_for : (May Might : Sense → Type 0) → ((s : Sense) → May s → Might s) → (senses : List Sense)
    (t : Table) (u : Option ℕ) (step : Step) → KeptStepJams May senses t u step
    → KeptStepJams Might senses t u step
step_for May Might more senses t None Row h = (h.0, more h.0 h.1, h.2)
step_for May Might more senses t None (Ratio w x) h = h
step_for May Might more senses t None (Pivot w x) h = h
step_for May Might more senses t (Some u) step h = h

module _ (fs : List Formula) (s : Sharing Simplex) (literals : List Item)
    (terms others : List Term) (why : Stop) (at : StopsAt fs s literals terms others why) where
  abbrev v : Simplex
  v = s.theory

  abbrev stuck : Stuck
  stuck = stuck_with s why literals

  number_given : (t : Term) → Contains (number_terms (numbers_in v)) t → IsNumberOf fs t
  number_given t h = All-contains (IsNumberOf fs) (number_terms (numbers_in v)) t at.given.numbers h

  gap_given : (g : Gap) → IsGapOf others g → IsSenseOf fs (gap_of g)
  gap_given g h = record {
    upper = All-contains (IsNumberOf fs) others g.upper at.others_are h.upper;
    lower = All-contains (IsNumberOf fs) others g.lower at.others_are h.lower;
  }

  meaning_is : (Q : Meaning → Type 0)
      → ((a u : ℕ) → Contains v.bound (a, u) → Q (record { unknown = u; term = term_at v.made u }))
      → All Q (meanings_in v)
  meaning_is Q each = All-each Q (meanings_in v) (λ m h.
      let found = Contains-of_map (λ (pair : ℕ × ℕ). record {
        unknown = pair.1;
        term = term_at v.made pair.1;
      }) v.bound m h in
      subst Q found.2 (each found.0.0 found.0.1 found.1))

  terms_are : All (λ meaning. IsNumberOf fs meaning.term) (meanings_in v)
  terms_are = meaning_is (λ meaning. IsNumberOf fs meaning.term)
      (λ a u h. number_given (term_at v.made u) (term_is_number v a u h))

  told_are : All (λ pair. IsNumberOf fs pair.0 × IsNumberOf fs pair.1) (told_in (shared_in s))
  told_are = All-each (λ pair. IsNumberOf fs pair.0 × IsNumberOf fs pair.1)
      (told_in (shared_in s)) (λ pair h.
      let found = Contains-of_map (λ (p : ℕ × ℕ). (node_term s.graph p.0, node_term s.graph p.1))
      s.told pair h in
      let is = All-contains (AreToldIn s.graph (numbers_in v)) s.told found.0 at.underway.told found.1 in
      subst (λ (q : Term × Term). IsNumberOf fs q.0 × IsNumberOf fs q.1) found.2 (
        node_given found.0.0 is.first,
        node_given found.0.1 is.second,
      ))
    where
      node_given : (a : ℕ) → IsNumber (numbers_in v) a → IsNumberOf fs (node_term s.graph a)
      node_given a h =
          number_given (node_term s.graph a) (number_of_node (shared_in s) at.underway.numbers a h).1

  -- ---- rows

  abbrev Senses : List Sense → Type 0
  Senses senses = AreSensesAt v (IsGapOf others) senses

  meant_are : (senses : List Sense) → Senses senses
      → All (λ meaning. StandsFor senses meaning.unknown (term meaning.term)) (meanings_in v)
  meant_are senses are = meaning_is
      (λ meaning. StandsFor senses meaning.unknown (term meaning.term)) (λ a u h.
      go (stands_for_made v u (for_bound v a u h at.sound)) are)
    where
      go : {e : Sense} → {u : ℕ} → StandsFor (senses_in v) u e → Senses senses
          → StandsFor senses u e
      go {e} {u} stands (inl is) = subst (λ ss. StandsFor ss u e) (sym is) stands
      go {e} {u} stands (inr gap) =
          subst (λ ss. StandsFor ss u e) (sym gap.2)
          (stands_behind (senses_in v) (gap_of gap.0) u e stands)

  made_are : (senses : List Sense) → Senses senses → All (IsSenseOf fs) senses
  made_are senses (inl is) = subst (All (IsSenseOf fs)) (sym is) at.given.made
  made_are senses (inr gap) =
      subst (All (IsSenseOf fs)) (sym gap.2)
      (All-push (IsSenseOf fs) (senses_in v) (gap_of gap.0) at.given.made (gap_given gap.0 gap.1))

  point_at_view : (senses : List Sense) → Senses senses → (x : Assignment) (p : Point)
      → IsPointOf senses x p → IsPointOf (senses_in v) x p
  point_at_view senses (inl is) x p point = subst (λ ss. IsPointOf ss x p) is point
  point_at_view senses (inr gap) x p point =
      point_before (senses_in v) (gap_of gap.0) x p (subst (λ ss. IsPointOf ss x p) gap.2 point)

  -- what is within the restrictions of the rows is what the view allows
  within_is : (senses : List Sense) → Senses senses → (t : Table) → AreRowsAt v t
      → (x : Assignment) (p : Point) → IsPointOf senses x p → IsWithin t p ↔ Allows v x
  within_is senses are t rows x p point =
      let here = point_at_view senses are x p point in (
        λ within. allows_from v at.sound p x here (λ u marked.
            within u ((rows.restricted u).1 ((at.sound.marked u).0 marked))),
        λ allowed. λ u marked. within_from v at.sound p x here allowed u
            ((at.sound.marked u).1 ((rows.restricted u).0 marked)),
      )

  -- ---- gaps

  abbrev asserted_gaps : List Gap
  asserted_gaps = flat_map asked (items_in (shared_in s))

  abbrev asking : ℕ
  asking = length (take at.underway.asking asserted_gaps)

  asked_are : take asking (flat_map asked literals) ≡ take at.underway.asking asserted_gaps
  asked_are =
      let early = take at.underway.asking asserted_gaps in
      let late = drop at.underway.asking asserted_gaps in
      ap (take asking) (at.ask ∙ ap (λ gaps. gaps ++ at.more)
      (sym (take-append-drop at.underway.asking asserted_gaps))
      ∙ append_assoc early late at.more)
      ∙ take-append_seam early (late ++ at.more)

  restricts : (senses : List Sense) → Senses senses → (t : Table) → AreRowsAt v t
      → RestrictsAs senses t literals (told_in (shared_in s)) asking at.underway.telling
  restricts senses are t rows x p point =
      let within = within_is senses are t rows x p point in
      let admits = at.underway.admits x in (
        λ h.
            let both = admits.0 (within.0 h) in
            (subst (NoneNegative x) (sym asked_are) both.0, both.1),
        λ h. within.1 (admits.1 (subst (NoneNegative x) asked_are h.0, h.1)),
      )

  keeps_rows : (rows : Rows) (So Also : List Sense → Table → Type 0)
      → ((senses : List Sense) → Senses senses → So senses (tabled rows)
      → Also senses (tabled rows))
      → KeepsRows v (IsGapOf others) rows So
      → KeepsRowsOf fs stuck rows Also
  keeps_rows rows So Also further kept = record {
    senses = kept.senses;
    meant = meant_are kept.senses kept.senses_are;
    made_of = made_are kept.senses kept.senses_are;
    kept = kept.kept;
    asking = asking;
    telling = at.underway.telling;
    restricts = restricts kept.senses kept.senses_are (tabled rows) kept.at_view;
    so = further kept.senses kept.senses_are kept.so;
  }

  -- what a call may make is of the formulas
  may_be_made : (senses : List Sense) → Senses senses → (e : Sense)
      → MayBeMade senses (Contains terms) (IsGapOf others) e
      → IsSenseOf fs e
  may_be_made senses are (term t) (inl named) =
      All-contains (IsNumberOf fs) terms t at.terms_are named
  may_be_made senses are (term t) (inr there) =
      All-contains (IsSenseOf fs) senses (term t) (made_are senses are) there
  may_be_made senses are (gap_of g) (inl named) = gap_given g named
  may_be_made senses are (gap_of g) (inr there) =
      All-contains (IsSenseOf fs) senses (gap_of g) (made_are senses are) there

  jams_as : (other : Stop) → UnlessMemory (IsBarred v (Contains terms)
      (IsGapOf others)) other → other ≢ stop.Memory
      → JamsAs fs v.limit stuck other
  jams_as (stop.Spill j) barred not_memory =
      keeps_rows j.rows _ _ (λ senses are.
      step_for _ _ (may_be_made senses are) senses (tabled j.rows) j.unknown j.step) barred
  jams_as (stop.Form t) barred not_memory =
      (All-contains (IsNumberOf fs) terms t at.terms_are barred.0, barred.1)
  jams_as (stop.Pivots j) barred not_memory = (
    barred.0,
    keeps_rows j.rows _ _ (λ senses are. subst (KeptRunIsSpent (tabled j.rows) j.unknown) barred.0)
        barred.1,
  )
  jams_as stop.Memory barred not_memory = absurd (not_memory refl)

pub stop_is_jam : StopIsJam
stop_is_jam fs s literals terms others why at = record {
  literals = at.literals_are;
  told = told_are fs s literals terms others why at;
  terms = terms_are fs s literals terms others why at;
  jams = jams_as fs s literals terms others why at why at.barred at.memory;
}

pub stops_is_stopped : StopsIsStopped
stops_is_stopped fs s literals terms others why at = record {
  underway = at.underway;
  jam = stop_is_jam fs s literals terms others why at;
  barred = unless_weaker (IsBarred s.theory (Contains terms) (IsGapOf others))
      (IsBarred s.theory (IsNumberOf fs) (IsGapOf (numbers_of fs)))
      (λ other. barred_more s.theory (Contains terms) (IsNumberOf fs) (IsGapOf others)
      (IsGapOf (numbers_of fs)) (λ t h. All-contains (IsNumberOf fs) terms t at.terms_are h)
      (gap_given fs s literals terms others why at) other) why at.barred;
}
