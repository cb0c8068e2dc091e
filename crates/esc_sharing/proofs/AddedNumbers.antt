-- Nodes become arithmetic, one after another.
use Rattle.std.proofs.Common.{◌≡◌, ℕ, ◌+◌, ◌<◌, ◌⊎◌, inl, inr, List, [], ◌∷◌, ◌++◌, length, get_or}
use Rattle.std.proofs.Common.{map, refl, ap, sym, subst, ◌∙◌, arith, append_assoc, Bool, true, false}
use Rattle.std.proofs.Common.{◌==◌, ◌||◌, ◌≤ℤ◌, pos, eqb-true, if◌then◌else◌, true≢false}
use Rattle.std.specs.Prelude.{Result, Ok, Err, IfErr, OnErr, OnOk}
use Rattle.std.specs.List.{All, Contains, list_any}
use Rattle.std.proofs.lemmas.Bool.{cases_lt}
use Rattle.std.proofs.lemmas.List.{append-nil, get_or_default, map-append}
use Rattle.std.proofs.lemmas.List.Elements.{All-append, All-contains, All-nil, All-push}
use Rattle.std.proofs.lemmas.List.Elements.{All-weaker, Contains-append_left}
use Rattle.std.proofs.lemmas.List.Elements.{Contains-append_right, Contains-get_or, Contains-push}
use Rattle.esc_term.specs.declared.term.Term.{Term}
use Rattle.esc_term.proofs.Members.{Contains-flat_map, Contains-here, Contains-in_flat_map, Contains-later}
use Rattle.esc_cover.specs.Assignment.{Assignment, gap_value}
use Rattle.esc_linear.specs.Forms.{form}
use Rattle.esc_egraph.specs.Graph.{Graph}
use Rattle.esc_simplex.specs.Senses.{Sense, gap_of, term}
use Rattle.esc_simplex.specs.declared.stop.Stop.{Stop}
use Rattle.esc_sharing.specs.Calls.{terms_at}
use Rattle.esc_sharing.specs.Admitted.{AdmitsWith}
use Rattle.esc_sharing.specs.Calls.{AddsNumbers}
use Rattle.esc_sharing.specs.Nodes.{node_count, node_term}
use Rattle.esc_sharing.specs.Numbers.{AddsMade, AreNumbersOf, IsNumber, MayStandFor, nodes_of}
use Rattle.esc_sharing.specs.Numbers.{number_terms, with_number}
use Rattle.esc_sharing.specs.Stops.{UnlessMemory}
use Rattle.esc_sharing.proofs.LiteralSteps.{unless_weaker}
use Rattle.esc_sharing.proofs.Lists.{All-each, Contains-map}

-- ---- more terms

pub may_wider : (terms wider : List Term) → All (Contains wider) terms → (s : Sense)
    → MayStandFor terms s → MayStandFor wider s
may_wider terms wider among (term t) may =
    let parts : Term → List Term = λ r. r ∷ map (λ p. p.term) (form r).parts in
    let found = Contains-flat_map parts terms t may in
    Contains-in_flat_map parts wider found.0 t
    (All-contains (Contains wider) terms found.0 among found.1) found.2
may_wider terms wider among (gap_of g) may = record {
  upper = All-contains (Contains wider) terms g.upper among may.upper;
  lower = All-contains (Contains wider) terms g.lower among may.lower;
}

pub made_wider : (old new : List Sense) (terms wider : List Term) → All (Contains wider) terms
    → AddsMade old new terms → AddsMade old new wider
made_wider old new terms wider among made = record {
  more = made.more;
  made = made.made;
  may = All-weaker (MayStandFor terms) (MayStandFor wider) (may_wider terms wider among) made.more
      made.may;
}

pub stop_wider : {T V : Type 0} (barred : T → List Term → List Term → Stop → Type 0)
    → ((v : T) (terms more numbers wider : List Term) (why : Stop) → All (Contains more) terms
    → All (Contains wider) numbers → barred v terms numbers why → barred v more wider why)
    → (exit : T) (terms more numbers wider : List Term) → All (Contains more) terms
    → All (Contains wider) numbers → (result : Result V Stop)
    → IfErr result (UnlessMemory (barred exit terms numbers))
    → IfErr result (UnlessMemory (barred exit more wider))
stop_wider barred by_more exit terms more numbers wider h k (Ok x) may = may
stop_wider barred by_more exit terms more numbers wider h k (Err why) may =
    unless_weaker (barred exit terms numbers) (barred exit more wider)
    (λ other such. by_more exit terms more numbers wider other h k such) why may

pub numbers_wider : (old new : List (ℕ × Term)) (terms wider : List Term)
    → All (Contains wider) terms → AddsNumbers old new terms → AddsNumbers old new wider
numbers_wider old new terms wider among is = record {
  more = is.more;
  numbers = is.numbers;
  among = All-weaker (Contains terms) (Contains wider)
      (λ t h. All-contains (Contains wider) terms t among h) (number_terms is.more) is.among;
}

-- ---- what was arithmetic stays so

module _ (old new : List (ℕ × Term)) (terms : List Term) (adds : AddsNumbers old new terms) where
  pub number_stays : (a : ℕ) → IsNumber old a → IsNumber new a
  number_stays a h =
      subst (λ ns. IsNumber ns a) (sym adds.numbers)
      (subst (λ ns. Contains ns a) (sym (map-append (λ (n : ℕ × Term). n.0) old adds.more))
      (Contains-append_left (nodes_of old) (nodes_of adds.more) a h))

  pub number_term_stays : (t : Term) → Contains (number_terms old) t
      → Contains (number_terms new) t
  number_term_stays t h =
      subst (λ ns. Contains (number_terms ns) t) (sym adds.numbers)
      (subst (λ ts. Contains ts t) (sym (map-append (λ (n : ℕ × Term). n.1) old adds.more))
      (Contains-append_left (number_terms old) (number_terms adds.more) t h))

  -- the terms that are arithmetic then are among those before and these
  pub terms_then : All (Contains (number_terms old ++ terms)) (number_terms new)
  terms_then = subst (λ ns. All (Contains (number_terms old ++ terms)) (number_terms ns))
      (sym adds.numbers)
      (subst (All (Contains (number_terms old ++ terms)))
      (sym (map-append (λ (n : ℕ × Term). n.1) old adds.more))
      (All-append (Contains (number_terms old ++ terms)) (number_terms old)
      (number_terms adds.more)
      (All-each (Contains (number_terms old ++ terms)) (number_terms old)
      (λ t h. Contains-append_left (number_terms old) terms t h))
      (All-weaker (Contains terms) (Contains (number_terms old ++ terms))
      (λ t h. Contains-append_right (number_terms old) terms t h) (number_terms adds.more)
      adds.among)))

pub adds_nothing : (numbers : List (ℕ × Term)) (terms : List Term)
    → AddsNumbers numbers numbers terms
adds_nothing numbers terms =
    record { more = []; numbers = sym (append-nil numbers); among = All-nil (Contains terms) }

-- ---- one node

found_number : (ns : List (ℕ × Term)) (a : ℕ) → list_any (λ number. number.0 == a) ns ≡ true
    → IsNumber ns a
found_number [] a e = absurd (true≢false (sym e))
found_number (n ∷ ns) a e = go (λ later. found_number ns a later) (n.0 == a) refl
  where
    go : (list_any (λ number. number.0 == a) ns ≡ true → IsNumber ns a) → (b : Bool)
        → (n.0 == a) ≡ b → IsNumber (n ∷ ns) a
    go rest true is = subst (Contains (n.0 ∷ nodes_of ns)) (eqb-true n.0 a is)
        (Contains-here n.0 (nodes_of ns))
    go rest false is = Contains-later n.0 (nodes_of ns) a
        (rest (sym (ap (λ b. b || list_any (λ number. number.0 == a) ns) is) ∙ e))

-- it was arithmetic, or comes behind the others
pub with_number_cases : (numbers : List (ℕ × Term)) (a : ℕ) (t : Term)
    → ((with_number numbers a t ≡ numbers) × IsNumber numbers a)
    ⊎ (with_number numbers a t ≡ numbers ++ (a, t) ∷ [])
with_number_cases numbers a t = go (list_any (λ number. number.0 == a) numbers) refl
  where
    go : (b : Bool) → list_any (λ number. number.0 == a) numbers ≡ b
        → ((with_number numbers a t ≡ numbers) × IsNumber numbers a)
        ⊎ (with_number numbers a t ≡ numbers ++ (a, t) ∷ [])
    go true is = inl (
      ap (λ b. if b then numbers else numbers ++ (a, t) ∷ []) is,
      found_number numbers a is,
    )
    go false is = inr (ap (λ b. if b then numbers else numbers ++ (a, t) ∷ []) is)

module _ (g : Graph) (numbers : List (ℕ × Term)) (a : ℕ) (there : a < node_count g) where
  abbrev then_numbers : List (ℕ × Term)
  then_numbers = with_number numbers a (node_term g a)

  pub number_now : IsNumber then_numbers a
  number_now = elim (with_number_cases numbers a (node_term g a)) [
    | inl same ↦ subst (λ ns. IsNumber ns a) (sym same.0) same.1
    | inr more ↦ subst (λ ns. IsNumber ns a) (sym more)
        (Contains-map (λ (n : ℕ × Term). n.0) (numbers ++ (a, node_term g a) ∷ [])
        (a, node_term g a) (Contains-push numbers (a, node_term g a)))
  ]

  pub numbers_of_then : AreNumbersOf g numbers → AreNumbersOf g then_numbers
  numbers_of_then are = elim (with_number_cases numbers a (node_term g a)) [
    | inl same ↦ subst (AreNumbersOf g) (sym same.0) are
    | inr more ↦ subst (AreNumbersOf g) (sym more)
        (All-push (λ (n : ℕ × Term). (n.0 < node_count g) × (node_term g n.0 ≡ n.1)) numbers
        (a, node_term g a) are (there, refl))
  ]

  module _ (first : List (ℕ × Term)) (terms : List Term) (named : Contains terms (node_term g a))
      (adds : AddsNumbers first numbers terms) where
    pub adds_then : AddsNumbers first then_numbers terms
    adds_then = elim (with_number_cases numbers a (node_term g a)) [
      | inl same ↦ subst (λ ns. AddsNumbers first ns terms) (sym same.0) adds
      | inr more ↦ record {
        more = adds.more ++ (a, node_term g a) ∷ [];
        numbers = more ∙ (ap (λ ns. ns ++ (a, node_term g a) ∷ []) adds.numbers
            ∙ append_assoc first adds.more ((a, node_term g a) ∷ []));
        among = subst (All (Contains terms))
            (sym (map-append (λ (n : ℕ × Term). n.1) adds.more ((a, node_term g a) ∷ [])))
            (All-push (Contains terms) (number_terms adds.more) (node_term g a) adds.among named);
      }
    ]

  pub number_stays_then : (n : ℕ) → IsNumber numbers n → IsNumber then_numbers n
  number_stays_then n h = elim (with_number_cases numbers a (node_term g a)) [
    | inl same ↦ subst (λ ns. IsNumber ns n) (sym same.0) h
    | inr more ↦ subst (λ ns. IsNumber ns n) (sym more)
        (subst (λ ns. Contains ns n)
        (sym (map-append (λ (m : ℕ × Term). m.0) numbers ((a, node_term g a) ∷ [])))
        (Contains-append_left (nodes_of numbers) (a ∷ []) n h))
  ]

pub admits_nothing : (Admits : Assignment → Type 0) → AdmitsWith Admits Admits []
admits_nothing Admits x = ((λ h. (h, All-nil (λ f. pos 0 ≤ℤ gap_value x f))), (λ h. h.0))

pub admits_both : (First Middle Last : Assignment → Type 0) → AdmitsWith First Middle []
    → AdmitsWith Middle Last [] → AdmitsWith First Last []
admits_both First Middle Last a b x = (
  λ last. (let middle = (b x).0 last in (a x).0 middle.0),
  λ first. (b x).1 ((a x).1 first, first.1),
)

-- ---- what a step leaves

module _ (g : Graph) (nodes : List ℕ) (place a : ℕ) (within : place < length nodes)
    (read : a ≡ get_or nodes place a) where
  -- its term is one of those of the nodes
  pub named_here : Contains (terms_at g nodes) (node_term g a)
  named_here = Contains-map (node_term g) nodes a
      (subst (Contains nodes) (sym read) (Contains-get_or nodes place a within))

  pub all-step : (old new : List (ℕ × Term)) → ((n : ℕ) → IsNumber old n → IsNumber new n)
      → IsNumber new a → ((i d : ℕ) → i < place → IsNumber old (get_or nodes i d))
      → (i d : ℕ) → i < place + 1 → IsNumber new (get_or nodes i d)
  all-step old new stays now before i d l =
      elim (cases_lt i place) [
        | inl earlier ↦ stays (get_or nodes i d) (before i d earlier)
        | inr last ↦
            let at : place ≡ i = omega (arith, l, last) in
            subst (λ j. IsNumber new (get_or nodes j d)) at
            (subst (IsNumber new) (read ∙ get_or_default nodes place a d within) now)
      ]

-- the call ended with the node or without it
pub either_way : {E : Type 0} (P : List (ℕ × Term) → Type 0) (old grown now : List (ℕ × Term))
    (result : Result (Unit {0}) E) → OnOk result (now ≡ grown)
    → OnErr result ((now ≡ old) ⊎ (now ≡ grown)) → P old → P grown → P now
either_way P old grown now (Ok x) ok err before after = subst P (sym ok) after
either_way P old grown now (Err e) ok err before after = elim err [
  | inl same ↦ subst P (sym same) before
  | inr more ↦ subst P (sym more) after
]

pub holds_ok : {V E P : Type 0} (result : Result V E) → P → OnOk result P
holds_ok (Ok x) p = p
holds_ok (Err e) p = tt
