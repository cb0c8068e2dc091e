-- A term came in play and its numbers were settled: what the whole call leaves and answers.
use Rattle.std.proofs.Common.{◌≡◌, ℕ, ◌<◌, Bool, List, ◌++◌, length, map, ap, ap₂, sym, subst, ◌∙◌}
use Rattle.std.specs.Prelude.{Ok, Err}
use Rattle.std.specs.List.{All, Contains, fold}
use Rattle.std.proofs.lemmas.List.Elements.{All-append, All-contains, All-weaker}
use Rattle.std.proofs.lemmas.List.Elements.{Contains-append_left, Contains-append_right}
use Rattle.esc_term.specs.declared.term.Term.{Term}
use Rattle.esc_term.specs.Term.{subterms, with_once}
use Rattle.esc_cover.specs.Assignment.{Assignment}
use Rattle.esc_nodes.specs.Nodes.{Shape}
use Rattle.esc_nodes.specs.Terms.{terms_of, term_of}
use Rattle.esc_trail.specs.Undo.{IsLawful, Notes, Undo}
use Rattle.esc_egraph.specs.GraphUndo.{graph_undo}
use Rattle.esc_egraph.specs.declared.record.EgraphRec.{EgraphRec}
use Rattle.esc_egraph.specs.declared.state.State.{State}
use Rattle.esc_egraph.specs.declared.state.State.TheVariants.{Open, Closed}
use Rattle.esc_simplex.specs.Senses.{Sense}
use Rattle.esc_simplex.specs.declared.stop.Stop.{Stop}
use Rattle.esc_simplex.specs.declared.stop.Stop.TheVariants as stop
use Rattle.esc_distinct.specs.declared.record.GroupRec.{GroupRec}
use Rattle.esc_sharing.specs.AddingInside.{IsGrown}
use Rattle.esc_sharing.specs.Calls.{AreNodesFor, KeepsTerms, terms_at}
use Rattle.esc_sharing.specs.Calls.{AddEnds, AddsNumbers, AllAreNumbers, IsNodeOf, PutsInPlay}
use Rattle.esc_sharing.specs.Calls.{TellsMore, becoming}
use Rattle.esc_sharing.specs.Literals.{group_item, item_of}
use Rattle.esc_sharing.specs.Nodes.{node_term, terms_in}
use Rattle.esc_sharing.specs.Numbers.{AddsMade, IsNumber, number_terms}
use Rattle.esc_sharing.specs.Calls.{StepEnds}
use Rattle.esc_sharing.specs.Shared.{IsShared, literals_in, seen}
use Rattle.esc_sharing.specs.SharingUndo.{part_carried, sharing_undo}
use Rattle.esc_sharing.specs.declared.record.ShareRec.{ShareRec}
use Rattle.esc_sharing.specs.declared.sharing.Sharing.{Sharing}
use Rattle.esc_sharing.proofs.AddedNumbers.{made_wider, numbers_wider}
use Rattle.esc_sharing.proofs.Alike.{groups-alike, items-alike}
use Rattle.esc_sharing.proofs.GrownSharing.{grown_shared, literals_grown}
use Rattle.esc_sharing.proofs.Least.{number_of_node}
use Rattle.esc_sharing.proofs.Lists.{All-each, Contains-of_map}
use Rattle.esc_sharing.proofs.SharingNotes.{graph_notes, tells_nothing}

-- ---- nodes come in play

module _ {T : Type 0} (is_sound : T → Type 0) (admits : T → Assignment → Type 0)
    (numbers_of : T → List (ℕ × Term)) (entry mid : Sharing T)
    (rest : mid ≡ record entry { graph = mid.graph })
    (shared : IsShared (seen is_sound admits numbers_of entry))
    (grown : IsGrown entry.graph mid.graph) where
  pub mid_shared : IsShared (seen is_sound admits numbers_of mid)
  mid_shared =
      subst (λ (s : Sharing T). IsShared (seen is_sound admits numbers_of s)) (sym rest)
      (grown_shared (seen is_sound admits numbers_of entry) shared mid.graph grown)

  pub mid_puts : (t : Term)
      → terms_in mid.graph ≡ fold with_once (terms_in entry.graph) (subterms t)
      → PutsInPlay (seen is_sound admits numbers_of entry) (seen is_sound admits numbers_of mid) t
  mid_puts t terms = record {
    terms = terms;
    nodes = grown.nodes;
    asserted = ap (λ (s : Sharing T). s.asserted) rest;
    groups = ap (λ (s : Sharing T). s.groups) rest;
    literals = ap (λ (s : Sharing T). literals_in (seen is_sound admits numbers_of s)) rest
        ∙ literals_grown (seen is_sound admits numbers_of entry) shared mid.graph grown;
    told = subst (λ (pairs : List (ℕ × ℕ)). TellsMore entry.told pairs)
        (sym (ap (λ (s : Sharing T). s.told) rest)) (tells_nothing entry.told);
  }

-- ---- nodes become arithmetic

module _ {T : Type 0} (is_sound : T → Type 0) (admits : T → Assignment → Type 0)
    (numbers_of : T → List (ℕ × Term)) (made_of : T → List Sense) (entry mid : Sharing T)
    (rest : mid ≡ record entry { graph = mid.graph }) (t : Term) (side : Bool) (nodes : List ℕ)
    (become : AreNodesFor mid.graph nodes (becoming t side)) where
  theory_is : mid.theory ≡ entry.theory
  theory_is = ap (λ (s : Sharing T). s.theory) rest

  -- the terms then, as those before and those that become arithmetic
  pub numbers_then : All (Contains (number_terms (numbers_of entry.theory) ++ becoming t side))
      (number_terms (numbers_of mid.theory) ++ terms_at mid.graph nodes)
  numbers_then = All-append (Contains (number_terms (numbers_of entry.theory) ++ becoming t side))
      (number_terms (numbers_of mid.theory)) (terms_at mid.graph nodes)
      (subst (λ (theory : T). All
      (Contains (number_terms (numbers_of entry.theory) ++ becoming t side))
      (number_terms (numbers_of theory))) (sym theory_is)
      (All-each (Contains (number_terms (numbers_of entry.theory) ++ becoming t side))
      (number_terms (numbers_of entry.theory))
      (λ s h. Contains-append_left (number_terms (numbers_of entry.theory)) (becoming t side) s
      h)))
      (All-weaker (Contains (becoming t side))
      (Contains (number_terms (numbers_of entry.theory) ++ becoming t side))
      (λ s h. Contains-append_right (number_terms (numbers_of entry.theory)) (becoming t side) s
      h) (terms_at mid.graph nodes) become.among)

  module _ (exit : Sharing T)
      (keeps : KeepsTerms is_sound made_of
      (number_terms (numbers_of mid.theory) ++ terms_at mid.graph nodes) mid exit)
      (adds : AddsNumbers (numbers_of mid.theory) (numbers_of exit.theory)
      (terms_at mid.graph nodes)) where
    pub call_made : AddsMade (made_of entry.theory) (made_of exit.theory)
        (number_terms (numbers_of entry.theory) ++ becoming t side)
    call_made = subst (λ (theory : T). AddsMade (made_of theory) (made_of exit.theory)
        (number_terms (numbers_of entry.theory) ++ becoming t side)) theory_is
        (made_wider (made_of mid.theory) (made_of exit.theory)
        (number_terms (numbers_of mid.theory) ++ terms_at mid.graph nodes)
        (number_terms (numbers_of entry.theory) ++ becoming t side) numbers_then keeps.made)

    pub call_numbers : AddsNumbers (numbers_of entry.theory) (numbers_of exit.theory)
        (becoming t side)
    call_numbers = subst (λ (theory : T). AddsNumbers (numbers_of theory)
        (numbers_of exit.theory) (becoming t side)) theory_is
        (numbers_wider (numbers_of mid.theory) (numbers_of exit.theory)
        (terms_at mid.graph nodes) (becoming t side) become.among adds)

    module _ (puts : PutsInPlay (seen is_sound admits numbers_of entry)
        (seen is_sound admits numbers_of mid) t) where
      literals_are : literals_in (seen is_sound admits numbers_of exit)
          ≡ literals_in (seen is_sound admits numbers_of entry)
      literals_are =
          ap₂ (λ items groups. items ++ groups)
          (items-alike mid.graph exit.graph keeps.nodes exit.asserted
          ∙ ap (map (item_of mid.graph)) keeps.asserted)
          (groups-alike mid.graph exit.graph keeps.nodes exit.groups
          ∙ ap (map (group_item mid.graph)) keeps.groups)
          ∙ puts.literals

      pub call_puts : PutsInPlay (seen is_sound admits numbers_of entry)
          (seen is_sound admits numbers_of exit) t
      call_puts = record {
        terms = ap terms_of keeps.nodes ∙ puts.terms;
        nodes = (puts.nodes.0, keeps.nodes ∙ puts.nodes.1);
        asserted = keeps.asserted ∙ puts.asserted;
        groups = keeps.groups ∙ puts.groups;
        literals = literals_are;
        told = subst (λ (s : Sharing T). TellsMore s.told exit.told) rest keeps.told;
      }

      module _ (node : ℕ) (node_is : IsNodeOf mid.graph t node) where
        call_node : IsNodeOf exit.graph t node
        call_node = record {
          there = subst (λ (shapes : List Shape). node < length shapes) (sym keeps.nodes)
              node_is.there;
          is = ap (λ shapes. term_of shapes node) keeps.nodes ∙ node_is.is;
        }

        all_numbers : IsShared (seen is_sound admits numbers_of exit)
            → All (IsNumber (numbers_of exit.theory)) nodes
            → AllAreNumbers (numbers_of exit.theory) (becoming t side)
        all_numbers is all =
            All-weaker (Contains (terms_at mid.graph nodes))
            (Contains (number_terms (numbers_of exit.theory))) (λ s h.
            let at = Contains-of_map (node_term mid.graph) nodes s h in
            let number = number_of_node (seen is_sound admits numbers_of exit) is.parts.numbers
            at.0 (All-contains (IsNumber (numbers_of exit.theory)) nodes at.0 all at.1) in
            subst (Contains (number_terms (numbers_of exit.theory)))
            (ap (λ shapes. term_of shapes at.0) keeps.nodes ∙ at.2) number.1)
            (becoming t side) become.each

        pub call_ok : (state : State) → StepEnds (seen is_sound admits numbers_of exit)
            (IsShared (seen is_sound admits numbers_of exit)) (Ok state)
            → All (IsNumber (numbers_of exit.theory)) nodes
            → AddEnds (seen is_sound admits numbers_of entry)
            (seen is_sound admits numbers_of exit) t side (Ok (node, state))
        call_ok Open ends all = (call_puts, call_node, all_numbers ends all, ends)
        call_ok Closed ends all = (call_puts, call_node, ends)

      pub call_err : (why : Stop) → StepEnds (seen is_sound admits numbers_of exit)
          (IsShared (seen is_sound admits numbers_of exit)) (Err why)
          → AddEnds (seen is_sound admits numbers_of entry)
          (seen is_sound admits numbers_of exit) t side (Err why)
      call_err (stop.Spill j) ends = (call_puts, ends)
      call_err (stop.Form u) ends = (call_puts, ends)
      call_err (stop.Pivots j) ends = (call_puts, ends)
      call_err stop.Memory ends = tt

pub theory_still : {T : Type 0} (entry mid : Sharing T) → mid ≡ record entry { graph = mid.graph }
    → mid.theory ≡ entry.theory
theory_still {T} entry mid rest = ap (λ (s : Sharing T). s.theory) rest

module _ {T Q W : Type 0} (undo : Undo T Q) (law : IsLawful undo) (nodes : EgraphRec → W)
    (groups : GroupRec → W) (lists : ShareRec → W) (theory : Q → W) (entry mid : Sharing T)
    (rest : mid ≡ record entry { graph = mid.graph }) where
  pub put_notes : (before after : List W)
      → Notes graph_undo nodes before after entry.graph mid.graph
      → Notes (sharing_undo undo) (part_carried nodes groups lists theory) before after entry mid
  put_notes before after notes =
      subst (λ (s : Sharing T). Notes (sharing_undo undo)
      (part_carried nodes groups lists theory) before after entry s) (sym rest)
      (graph_notes undo law nodes groups lists theory entry before after entry.graph mid.graph
      notes)
