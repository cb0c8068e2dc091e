-- The terms of a formula came in play, and what becomes arithmetic by them was made so: what the
-- whole call leaves and answers.
use Rattle.std.proofs.Common.{◌≡◌, ◌≢◌, ℕ, true, inl, inr, List, [], ◌++◌, length, map, take}
use Rattle.std.proofs.Common.{append-nil, ap, ap₂, sym, subst, ◌∙◌}
use Rattle.std.specs.Prelude.{IfErr, OnOk, Result, Ok, Err}
use Rattle.std.specs.List.{All, Contains, flat_map, fold}
use Rattle.std.proofs.Math.Seq.{take-append_seam}
use Rattle.std.proofs.lemmas.List.{length-map, map-append}
use Rattle.std.proofs.lemmas.List.Elements.{All-append, All-contains, All-weaker}
use Rattle.std.proofs.lemmas.List.Elements.{Contains-append_cases, Contains-append_left}
use Rattle.esc_term.specs.declared.term.Term.{Term}
use Rattle.esc_term.specs.declared.formula.Formula.{Formula}
use Rattle.esc_term.specs.Formula.{is_closed, terms_of}
use Rattle.esc_term.specs.Term.{with_once}
use Rattle.esc_cover.specs.Assignment.{asked}
use Rattle.esc_nodes.specs.Terms as node
use Rattle.esc_egraph.specs.declared.state.State.{State}
use Rattle.esc_egraph.specs.declared.state.State.TheVariants.{Open, Closed}
use Rattle.esc_simplex.specs.Barred.{IsBarred}
use Rattle.esc_simplex.specs.View.{IsSimplex, numbers_in, senses_in}
use Rattle.esc_simplex.specs.declared.simplex.Simplex.{Simplex}
use Rattle.esc_simplex.specs.declared.stop.Stop.{Stop}
use Rattle.esc_simplex.specs.declared.stop.Stop.TheVariants as stop
use Rattle.esc_sharing.specs.Calls.{AddsNumbers, AreNodesFor, KeepsTerms, StepEnds, TellsMore}
use Rattle.esc_sharing.specs.Calls.{terms_at}
use Rattle.esc_sharing.specs.Literals.{group_item, item_of}
use Rattle.esc_sharing.specs.Nodes.{node_term}
use Rattle.esc_sharing.specs.Numbers.{AddsMade, IsGapOf, IsNumber, number_terms}
use Rattle.esc_sharing.specs.Shared.{IsShared, IsUnderway, Shared, items_in, literals_in}
use Rattle.esc_sharing.specs.Stops.{UnlessMemory}
use Rattle.esc_sharing.specs.declared.literal.Lit.{Lit}
use Rattle.esc_sharing.specs.declared.sharing.Sharing.{Sharing}
use Rattle.esc_sharing.proofs.Alike.{groups-alike, items-alike}
use Rattle.esc_sharing.proofs.Least.{number_of_node}
use Rattle.esc_sharing.proofs.Lists.{All-each, Contains-of_map}
use Rattle.esc_outcome.specs.Jam.{IsNumberOf}
use Rattle.esc_outcome.specs.JamLaws.{IsGivenBy, shared_in}
use Rattle.esc_outcome.proofs.Giving.{given_after_call}
use Rattle.esc_outcome.proofs.Jamming.{stops_is_stopped}
use Rattle.esc_play.specs.Play.{Comes, GivesMore, HasMore, PlayEnds, PlaysMore, StopsPlay}
use Rattle.esc_play.specs.WalkingInside.{Brings, arithmetic_of, sides_in}
use Rattle.esc_play.proofs.MoreBehind.{more_both, more_none}
use Rattle.esc_play.proofs.MorePlay.{active_terms-push, becomes_number, new_number, number_or_new}
use Rattle.esc_play.proofs.MorePlay.{was_number}

-- the literals without groups, where as many were asserted
items_from : (v w : Shared) → w.asserted ≡ v.asserted → literals_in w ≡ literals_in v
    → items_in w ≡ items_in v
items_from v w asserted literals =
    let as_many : length (items_in w) ≡ length (items_in v) =
    length-map w.asserted (item_of w.graph)
    ∙ (ap (λ (lits : List Lit). length lits) asserted
    ∙ sym (length-map v.asserted (item_of v.graph))) in
    sym (take-append_seam (items_in w) (map (group_item w.graph) w.groups))
    ∙ (ap₂ (λ n items. take n items) as_many literals
    ∙ take-append_seam (items_in v) (map (group_item v.graph) v.groups))

module _ (entry mid : Sharing Simplex) (f : Formula) (closed : is_closed f ≡ true)
    (rest : mid ≡ record entry { graph = mid.graph }) (gathered : List ℕ)
    (brings : Brings (shared_in entry) (shared_in mid) [] gathered (terms_of f) (sides_in f))
    (nodes : List ℕ)
    (become : AreNodesFor mid.graph nodes (arithmetic_of (terms_of f) (sides_in f))) where
  abbrev made_terms : List Term
  made_terms = arithmetic_of (terms_of f) (sides_in f)

  theory_is : mid.theory ≡ entry.theory
  theory_is = ap (λ (s : Sharing Simplex). s.theory) rest

  module _ (fs : List Formula) (among : Contains fs f) (given : IsGivenBy fs entry.theory) where
    pub given_mid : IsGivenBy fs mid.theory
    given_mid = subst (IsGivenBy fs) (sym theory_is) given

    pub nodes_given : All (IsNumberOf fs) (terms_at mid.graph nodes)
    nodes_given = All-weaker (Contains made_terms) (IsNumberOf fs)
        (becomes_number fs f closed among) (terms_at mid.graph nodes) become.among

    pub all_given : All (IsNumberOf fs)
        (number_terms (numbers_in mid.theory) ++ terms_at mid.graph nodes)
    all_given = All-append (IsNumberOf fs) (number_terms (numbers_in mid.theory))
        (terms_at mid.graph nodes) given_mid.numbers nodes_given

  module _ (exit : Sharing Simplex)
      (keeps : KeepsTerms IsSimplex senses_in
      (number_terms (numbers_in mid.theory) ++ terms_at mid.graph nodes) mid exit)
      (adds : AddsNumbers (numbers_in mid.theory) (numbers_in exit.theory)
      (terms_at mid.graph nodes)) where
    asserted_is : exit.asserted ≡ entry.asserted
    asserted_is = keeps.asserted ∙ ap (λ (s : Sharing Simplex). s.asserted) rest

    literals_are : literals_in (shared_in exit) ≡ literals_in (shared_in entry)
    literals_are =
        ap₂ (λ items groups. items ++ groups)
        (items-alike mid.graph exit.graph keeps.nodes exit.asserted
        ∙ ap (map (item_of mid.graph)) keeps.asserted)
        (groups-alike mid.graph exit.graph keeps.nodes exit.groups
        ∙ ap (map (group_item mid.graph)) keeps.groups)
        ∙ brings.literals

    pub comes : Comes (shared_in entry) (shared_in exit)
    comes = record {
      asserted = asserted_is;
      groups = keeps.groups ∙ ap (λ (s : Sharing Simplex). s.groups) rest;
      items = items_from (shared_in entry) (shared_in exit) asserted_is literals_are;
      literals = literals_are;
      told = subst (λ (s : Sharing Simplex). TellsMore s.told exit.told) rest keeps.told;
      nodes = (brings.nodes.0, keeps.nodes ∙ brings.nodes.1);
    }

    -- ---- which terms are arithmetic

    numbers_are : number_terms (numbers_in exit.theory)
        ≡ number_terms (numbers_in entry.theory) ++ number_terms adds.more
    numbers_are = ap number_terms adds.numbers
        ∙ (map-append (λ (number : ℕ × Term). number.1) (numbers_in mid.theory) adds.more
        ∙ ap (λ (theory : Simplex). number_terms (numbers_in theory) ++ number_terms adds.more)
        theory_is)

    made_there : (t : Term) → Contains (number_terms adds.more) t → Contains made_terms t
    made_there t h =
        All-contains (Contains made_terms) (terms_at mid.graph nodes) t become.among
        (All-contains (Contains (terms_at mid.graph nodes)) (number_terms adds.more) t adds.among h)

    pub gives : GivesMore entry.theory exit.theory f
    gives fs among given =
        given_after_call fs (number_terms (numbers_in mid.theory) ++ terms_at mid.graph nodes)
        mid.theory exit.theory (given_mid fs among given)
        (subst (All (IsNumberOf fs)) (sym numbers_are)
        (All-append (IsNumberOf fs) (number_terms (numbers_in entry.theory))
        (number_terms adds.more) given.numbers
        (All-each (IsNumberOf fs) (number_terms adds.more)
        (λ t h. becomes_number fs f closed among t (made_there t h)))))
        (all_given fs among given) keeps.made

    module _ (is : IsShared (shared_in exit))
        (all : All (IsNumber (numbers_in exit.theory)) nodes) where
      new_there : (t : Term) → Contains made_terms t
          → Contains (number_terms (numbers_in exit.theory)) t
      new_there t h =
          let at = Contains-of_map (node_term mid.graph) nodes t
          (All-contains (Contains (terms_at mid.graph nodes)) made_terms t become.each h) in
          let number = number_of_node (shared_in exit) is.parts.numbers at.0
          (All-contains (IsNumber (numbers_in exit.theory)) nodes at.0 all at.1) in
          subst (Contains (number_terms (numbers_in exit.theory)))
          (ap (λ shapes. node.term_of shapes at.0) keeps.nodes ∙ at.2) number.1

      old_there : (t : Term) → Contains (number_terms (numbers_in entry.theory)) t
          → Contains (number_terms (numbers_in exit.theory)) t
      old_there t h = subst (λ ts. Contains ts t) (sym numbers_are)
          (Contains-append_left (number_terms (numbers_in entry.theory)) (number_terms adds.more)
          t h)

      pub plays : PlaysMore (shared_in entry) (shared_in exit) f
      plays fs same = record {
        terms = ap node.terms_of keeps.nodes ∙ (brings.terms_are
            ∙ (ap (λ seen. fold with_once seen (terms_of f)) same.terms
            ∙ sym (active_terms-push fs f closed)));
        numbers = λ t. (
          (λ h. elim (Contains-append_cases (number_terms (numbers_in entry.theory))
              (number_terms adds.more) t (subst (λ ts. Contains ts t) numbers_are h)) [
                | inl old ↦ was_number fs f t ((same.numbers t).0 old)
                | inr new ↦ new_number fs f closed t (made_there t new)
              ]),
          (λ h. elim (number_or_new fs f t h) [
            | inl old ↦ old_there t ((same.numbers t).1 old)
            | inr new ↦ new_there t new
          ]),
        );
      }

    -- ---- it ends

    pub ends : (result : Result State Stop)
        → StepEnds (shared_in exit) (IsShared (shared_in exit)) result
        → OnOk result (All (IsNumber (numbers_in exit.theory)) nodes)
        → PlayEnds (shared_in entry) (shared_in exit) f result
    ends (Ok Open) is all = (comes, is, plays is all)
    ends (Ok Closed) none all = (comes, none)
    ends (Err (stop.Spill j)) underway all = (comes, underway)
    ends (Err (stop.Form t)) underway all = (comes, underway)
    ends (Err (stop.Pivots j)) underway all = (comes, underway)
    ends (Err stop.Memory) underway all = tt

    -- ---- it is stopped

    abbrev Barred : Stop → Type 0
    Barred = IsBarred exit.theory (Contains (terms_at mid.graph nodes))
        (IsGapOf (number_terms (numbers_in mid.theory) ++ terms_at mid.graph nodes))

    stopped : (why : Stop) → why ≢ stop.Memory → IsUnderway (shared_in exit)
        → UnlessMemory Barred why → StopsPlay entry exit f why
    stopped why not_memory underway barred fs literals among given are asks =
        stops_is_stopped fs exit literals (terms_at mid.graph nodes)
        (number_terms (numbers_in mid.theory) ++ terms_at mid.graph nodes) why (record {
          sound = keeps.sound;
          underway = underway;
          given = gives fs among given;
          literals_are = are;
          more = [];
          ask = asks ∙ (ap (flat_map asked) (sym comes.items)
              ∙ sym (append-nil (flat_map asked (items_in (shared_in exit)))));
          terms_are = nodes_given fs among given;
          others_are = all_given fs among given;
          barred = barred;
          memory = not_memory;
        })

    stops_with : (why : Stop) → StepEnds (shared_in exit) (IsShared (shared_in exit)) (Err why)
        → UnlessMemory Barred why → UnlessMemory (StopsPlay entry exit f) why
    stops_with (stop.Spill j) underway barred = stopped (stop.Spill j) (λ e. cc) underway barred
    stops_with (stop.Form t) underway barred = stopped (stop.Form t) (λ e. cc) underway barred
    stops_with (stop.Pivots j) underway barred = stopped (stop.Pivots j) (λ e. cc) underway barred
    stops_with stop.Memory underway barred = tt

    pub stops : (result : Result State Stop)
        → StepEnds (shared_in exit) (IsShared (shared_in exit)) result
        → IfErr result (UnlessMemory Barred)
        → IfErr result (UnlessMemory (StopsPlay entry exit f))
    stops (Ok state) done barred = barred
    stops (Err why) underway barred = stops_with why underway barred

-- ---- memory is wanting

pub gives_same : (entry mid : Sharing Simplex) (f : Formula)
    → mid ≡ record entry { graph = mid.graph } → GivesMore entry.theory mid.theory f
gives_same entry mid f rest fs among given =
    subst (IsGivenBy fs) (sym (ap (λ (s : Sharing Simplex). s.theory) rest)) given

pub means_same : (entry mid : Sharing Simplex) → mid ≡ record entry { graph = mid.graph }
    → HasMore (senses_in entry.theory) (senses_in mid.theory)
means_same entry mid rest =
    more_none (senses_in entry.theory) (senses_in mid.theory)
    (ap (λ (s : Sharing Simplex). senses_in s.theory) rest)

pub means_more : (entry mid new : Sharing Simplex) → mid ≡ record entry { graph = mid.graph }
    → (terms : List Term) → AddsMade (senses_in mid.theory) (senses_in new.theory) terms
    → HasMore (senses_in entry.theory) (senses_in new.theory)
means_more entry mid new rest terms adds =
    more_both (senses_in entry.theory) (senses_in mid.theory) (senses_in new.theory)
    (means_same entry mid rest) (adds.more, adds.made)

pub sound_same : (entry mid : Sharing Simplex) → mid ≡ record entry { graph = mid.graph }
    → IsSimplex entry.theory → IsSimplex mid.theory
sound_same entry mid rest =
    subst IsSimplex (sym (ap (λ (s : Sharing Simplex). s.theory) rest))
