-- What the step of a literal answers, by its kind, and what a call leaves that asserts it.
use Rattle.std.proofs.Common.{◌≡◌, ℕ, ◌⊎◌, inl, inr, List, [], ◌∷◌, ◌++◌, refl, ap, sym, subst}
use Rattle.std.proofs.Common.{◌∙◌}
use Rattle.std.specs.Prelude.{IfErr, Result, Ok, Err}
use Rattle.std.specs.List.{All, Contains}
use Rattle.std.proofs.lemmas.List.Elements.{All-contains_itself, All-nil}
use Rattle.esc_term.specs.declared.term.Term.{Term}
use Rattle.esc_cover.specs.Assignment.{Assignment, asked}
use Rattle.esc_trail.specs.Undo.{IsLawful, Undo}
use Rattle.esc_union.specs.Merges.{SameClass}
use Rattle.esc_egraph.specs.Congruence.{EqualWith, IsBroken, IsLeast, IsMet}
use Rattle.esc_egraph.specs.Graph.{Graph, IsGraph, number_of}
use Rattle.esc_egraph.specs.declared.record.EgraphRec.{EgraphRec}
use Rattle.esc_egraph.specs.declared.state.State.{State}
use Rattle.esc_egraph.specs.declared.state.State.TheVariants.{Open, Closed}
use Rattle.esc_distinct.specs.Groups.{AreBroken}
use Rattle.esc_distinct.specs.declared.record.GroupRec.{GroupRec}
use Rattle.esc_simplex.specs.Senses.{Sense}
use Rattle.esc_simplex.specs.declared.stop.Stop.{Stop}
use Rattle.esc_simplex.specs.declared.stop.Stop.TheVariants as stop
use Rattle.esc_sharing.specs.Admitted.{RestrictEnds}
use Rattle.esc_sharing.specs.AssertingInside.{IsAsserting, IsOrder}
use Rattle.esc_sharing.specs.Literals.{AreSides, item_of}
use Rattle.esc_sharing.specs.SettlingInside.{IsUnsettled, Keeps}
use Rattle.esc_sharing.specs.Calls.{StepEnds}
use Rattle.esc_sharing.specs.Shared.{HaveNoModel, IsMetIn, IsShared, IsUnderway, Shared}
use Rattle.esc_sharing.specs.Shared.{denied_pair, literals_in, seen}
use Rattle.esc_sharing.specs.SharingUndo.{part_carried}
use Rattle.esc_sharing.specs.Stops.{UnlessMemory}
use Rattle.esc_sharing.specs.declared.literal.Lit.{Lit}
use Rattle.esc_sharing.specs.declared.literal.Lit.TheVariants.{Equal, Apart, Below, AtMost}
use Rattle.esc_sharing.specs.declared.record.ShareRec.{ShareRec}
use Rattle.esc_sharing.specs.declared.record.ShareRec.TheVariants.{Asserted}
use Rattle.esc_sharing.specs.declared.sharing.Sharing.{Sharing}
use Rattle.esc_sharing.proofs.LastLiteral.{apart_closed, apart_open, equal_closed, equal_open}
use Rattle.esc_sharing.proofs.LastLiteral.{equated_view, kept_graph, kept_view, order_closed}
use Rattle.esc_sharing.proofs.LastLiteral.{order_open, order_underway, ordered_view}
use Rattle.esc_sharing.proofs.SharingNotes.{keeps_asserted}

-- ---- orders

order_denies_none : (lit : Lit) → IsOrder lit → denied_pair lit ≡ []
order_denies_none (Equal a b) order = absurd order
order_denies_none (Apart a b) order = absurd order
order_denies_none (Below a b) order = refl
order_denies_none (AtMost a b) order = refl

order_met : (g : Graph) (lit : Lit) → IsOrder lit → IsMetIn g lit
order_met g (Equal a b) order = absurd order
order_met g (Apart a b) order = absurd order
order_met g (Below a b) order = tt
order_met g (AtMost a b) order = tt

module _ {T : Type 0} (is_sound : T → Type 0) (admits : T → Assignment → Type 0)
    (numbers_of : T → List (ℕ × Term)) (entry : Sharing T) (lit : Lit)
    (at : IsAsserting (seen is_sound admits numbers_of entry) lit) where
  -- the view without the literal
  abbrev pub before_literal : Shared
  before_literal = record (seen is_sound admits numbers_of entry) { asserted = at.before }

  module _ (order : IsOrder lit) (exit : T) (numbers : numbers_of exit ≡ numbers_of entry.theory)
      (sound : is_sound exit) where
    at_order : (P : Shared → Type 0) → P (ordered_view before_literal at.shared lit at.sides
        (admits exit) (is_sound exit) sound)
        → P (seen is_sound admits numbers_of (record entry { theory = exit }))
    at_order P holds =
        subst (λ ns. P (record (seen is_sound admits numbers_of (record entry { theory = exit })) {
          numbers = ns;
        })) (sym numbers)
        (subst (λ lits. P (record (seen is_sound admits numbers_of entry) {
          asserted = lits;
          admits = admits exit;
          sound = is_sound exit;
        })) (sym at.asserted) holds)

    pub order_step : (result : Result State Stop)
        → RestrictEnds (admits entry.theory) (admits exit) (asked (item_of entry.graph lit)) result
        → StepEnds (seen is_sound admits numbers_of (record entry { theory = exit }))
        (IsUnsettled (seen is_sound admits numbers_of (record entry { theory = exit }))
        (SameClass (number_of entry.graph))) result
    order_step (Ok Open) ends = at_order (λ w. IsUnsettled w (SameClass (number_of entry.graph)))
        (order_open before_literal at.shared lit at.sides (admits exit) (is_sound exit) sound
        (order_denies_none lit order) (order_met entry.graph lit order) ends.0 ends.1)
    order_step (Ok Closed) ends = at_order (λ w. HaveNoModel (literals_in w))
        (order_closed before_literal at.shared lit at.sides (admits exit) (is_sound exit) sound
        ends.1)
    order_step (Err (stop.Spill j)) ends = at_order IsUnderway
        (order_underway before_literal at.shared lit at.sides (admits exit) (is_sound exit) sound
        ends)
    order_step (Err (stop.Form t)) ends = at_order IsUnderway
        (order_underway before_literal at.shared lit at.sides (admits exit) (is_sound exit) sound
        ends)
    order_step (Err (stop.Pivots j)) ends = at_order IsUnderway
        (order_underway before_literal at.shared lit at.sides (admits exit) (is_sound exit) sound
        ends)
    order_step (Err stop.Memory) ends = tt

-- ---- denied equations

module _ {T : Type 0} (is_sound : T → Type 0) (admits : T → Assignment → Type 0)
    (numbers_of : T → List (ℕ × Term)) (entry : Sharing T) (a b : ℕ)
    (at : IsAsserting (seen is_sound admits numbers_of entry) (Apart a b)) (exit : Graph)
    (forbids : exit ≡ record entry.graph { forbidden = entry.graph.forbidden ++ ((a, b) ∷ []) })
  where
    abbrev apart_before : Shared
    apart_before = before_literal is_sound admits numbers_of entry (Apart a b) at

    at_apart : (P : Shared → Type 0) → P (kept_view apart_before at.shared a b at.sides)
        → P (seen is_sound admits numbers_of (record entry { graph = exit }))
    at_apart P holds =
        subst (λ (g : Graph). P (seen is_sound admits numbers_of (record entry { graph = g })))
        (sym forbids)
        (subst (λ lits. P (record (seen is_sound admits numbers_of entry) {
          asserted = lits;
          graph = kept_graph apart_before at.shared a b at.sides;
        })) (sym at.asserted) holds)

    pub apart_step : (state : State) → (state ≡ Open → IsMet exit)
        → (state ≡ Closed → SameClass (number_of entry.graph) a b)
        → StepEnds (seen is_sound admits numbers_of (record entry { graph = exit }))
        (IsUnsettled (seen is_sound admits numbers_of (record entry { graph = exit }))
        (SameClass (number_of entry.graph))) (Ok state)
    apart_step Open met same = at_apart (λ w. IsUnsettled w (SameClass (number_of entry.graph)))
        (apart_open apart_before at.shared a b at.sides (subst IsMet forbids (met refl)))
    apart_step Closed met same = at_apart (λ w. HaveNoModel (literals_in w))
        (apart_closed apart_before at.shared a b at.sides (same refl))

-- ---- equations

module _ {T : Type 0} (is_sound : T → Type 0) (admits : T → Assignment → Type 0)
    (numbers_of : T → List (ℕ × Term)) (entry exit : Sharing T) (a b : ℕ)
    (at : IsAsserting (seen is_sound admits numbers_of entry) (Equal a b))
    (rest : exit ≡ record entry { graph = exit.graph })
    (others : exit.graph ≡ record entry.graph { merges = exit.graph.merges })
    (least : IsLeast entry.graph.nodes (EqualWith (number_of entry.graph) a b)
    (number_of exit.graph)) where
  abbrev equal_before : Shared
  equal_before = before_literal is_sound admits numbers_of entry (Equal a b) at

  abbrev merges : List (ℕ × ℕ)
  merges = exit.graph.merges

  abbrev joined : Sharing T
  joined = record entry { graph = record entry.graph { merges = merges } }

  exit_is : exit ≡ joined
  exit_is = rest ∙ ap (λ (g : Graph). let s : Sharing T = record entry { graph = g } in s) others

  at_equal : (P : Shared → Type 0)
      → P (equated_view equal_before at.shared a b at.sides merges least)
      → P (seen is_sound admits numbers_of exit)
  at_equal P holds =
      subst (λ (s : Sharing T). P (seen is_sound admits numbers_of s)) (sym exit_is)
      (subst (λ lits. P (record (seen is_sound admits numbers_of joined) { asserted = lits }))
      (sym at.asserted) holds)

  pub equal_step : IsGraph exit.graph → (state : State)
      → (state ≡ Open → IsMet exit.graph × (AreBroken (number_of exit.graph) entry.groups → ⊥))
      → (state ≡ Closed
      → IsBroken exit.graph ⊎ AreBroken (number_of exit.graph) entry.groups)
      → StepEnds (seen is_sound admits numbers_of exit)
      (IsUnsettled (seen is_sound admits numbers_of exit) (SameClass (number_of entry.graph)))
      (Ok state)
  equal_step graph Open opens closes =
      at_equal (λ w. IsUnsettled w (SameClass (number_of entry.graph)))
      (equal_open equal_before at.shared a b at.sides merges least (subst IsGraph others graph)
      (subst IsMet others (opens refl).0) (opens refl).1)
  equal_step graph Closed opens closes =
      at_equal (λ w. HaveNoModel (literals_in w))
      (equal_closed equal_before at.shared a b at.sides merges least
      (subst IsGraph others graph)
      (elim (closes refl) [
        | inl inside ↦ inl (subst IsBroken others inside)
        | inr twice ↦ inr twice
      ]))

-- ---- the literal is put on the list

module _ {T : Type 0} (is_sound : T → Type 0) (admits : T → Assignment → Type 0)
    (numbers_of : T → List (ℕ × Term)) (entry between : Sharing T) (lit : Lit)
    (pushed : between ≡ record entry { asserted = entry.asserted ++ (lit ∷ []) }) where
  pub pushed_asserting : IsShared (seen is_sound admits numbers_of entry)
      → AreSides entry.graph (numbers_of entry.theory) lit
      → IsAsserting (seen is_sound admits numbers_of between) lit
  pushed_asserting shared sides =
      subst (λ (s : Sharing T). IsAsserting (seen is_sound admits numbers_of s) lit) (sym pushed)
      (record { before = entry.asserted; asserted = refl; shared = shared; sides = sides })

module _ {T Q W : Type 0} (undo : Undo T Q) (law : IsLawful undo) (nodes : EgraphRec → W)
    (groups : GroupRec → W) (lists : ShareRec → W) (theory : Q → W) (is_sound : T → Type 0)
    (numbers_of : T → List (ℕ × Term)) (made_of : T → List Sense)
    (entry between : Sharing T) (lit : Lit)
    (pushed : between ≡ record entry { asserted = entry.asserted ++ (lit ∷ []) }) where
  pub push_keeps : (before after : List W) → is_sound entry.theory
      → after ≡ before ++ (lists Asserted ∷ [])
      → Keeps undo (part_carried nodes groups lists theory) is_sound numbers_of made_of (lit ∷ [])
      [] before after entry between
  push_keeps before after sound noted =
      subst (λ w. Keeps undo (part_carried nodes groups lists theory) is_sound numbers_of made_of
      (lit ∷ []) [] before after entry w) (sym pushed)
      (keeps_asserted undo law nodes groups lists theory is_sound numbers_of made_of before after
      entry lit sound noted)

-- ---- stops

-- what a call may answer that may answer less
pub unless_weaker : (Such More : Stop → Type 0) → ((why : Stop) → Such why → More why)
    → (why : Stop) → UnlessMemory Such why → UnlessMemory More why
unless_weaker Such More weaker (stop.Spill j) such = weaker (stop.Spill j) such
unless_weaker Such More weaker (stop.Form t) such = weaker (stop.Form t) such
unless_weaker Such More weaker (stop.Pivots j) such = weaker (stop.Pivots j) such
unless_weaker Such More weaker stop.Memory such = tt

-- so may one that names no terms
pub stop_by_more : {T : Type 0} (barred : T → List Term → List Term → Stop → Type 0)
    → ((v : T) (terms more numbers wider : List Term) (why : Stop) → All (Contains more) terms
    → All (Contains wider) numbers → barred v terms numbers why → barred v more wider why)
    → (exit : T) (terms numbers wider : List Term) → numbers ≡ wider
    → (result : Result State Stop) → IfErr result (UnlessMemory (barred exit [] numbers))
    → IfErr result (UnlessMemory (barred exit terms wider))
stop_by_more barred by_more exit terms numbers wider same (Ok state) may = may
stop_by_more barred by_more exit terms numbers wider same (Err why) may =
    unless_weaker (barred exit [] numbers) (barred exit terms wider)
    (λ other such. by_more exit [] terms numbers wider other (All-nil (Contains terms))
    (subst (λ list. All (Contains list) numbers) same (All-contains_itself numbers)) such) why may
