-- Nodes became arithmetic: what is promised until all is told that this brings.
use Rattle.std.proofs.Common.{◌≡◌, ℕ, ◌≤ℤ◌, pos, inl, inr, Bool, List, [], ◌∷◌, ◌++◌, take, length, refl, ap}
use Rattle.std.proofs.Common.{subst, ◌∙◌, arith, length-append}
use Rattle.std.specs.List.{Contains}
use Rattle.std.proofs.Math.Seq.{take-append_seam}
use Rattle.std.proofs.lemmas.List.{append-nil}
use Rattle.std.proofs.lemmas.List.Elements.{All-nil, All-weaker}
use Rattle.esc_term.specs.declared.term.Term.{Term}
use Rattle.esc_term.specs.declared.formula.Item.{Item}
use Rattle.esc_cover.specs.Assignment.{Assignment, Suits, gap_value, value}
use Rattle.esc_cover.specs.Least.{IsCongruent}
use Rattle.esc_nodes.specs.Terms.{terms_of}
use Rattle.esc_union.specs.Merges.{SameClass}
use Rattle.esc_egraph.specs.Graph.{number_of}
use Rattle.esc_sharing.specs.AddingInside.{WereKnown}
use Rattle.esc_sharing.specs.Admitted.{AdmitsWith}
use Rattle.esc_sharing.specs.Calls.{AddsNumbers}
use Rattle.esc_sharing.specs.Literals.{AreSides, AreOrderSides}
use Rattle.esc_sharing.specs.Nodes.{node_term}
use Rattle.esc_sharing.specs.Numbers.{AreNumbersOf, IsNumber, number_terms}
use Rattle.esc_sharing.specs.SettlingInside.{IsUnsettled}
use Rattle.esc_sharing.specs.Shared.{AreToldIn, IsShared, Shared, literals_in}
use Rattle.esc_sharing.specs.declared.literal.Lit.{Lit}
use Rattle.esc_sharing.specs.declared.literal.Lit.TheVariants.{Equal, Apart, Below, AtMost}
use Rattle.esc_sharing.proofs.AddedNumbers.{number_stays, number_term_stays}
use Rattle.esc_sharing.proofs.Least.{demanded_by_least}
use Rattle.esc_sharing.proofs.Whole.{settled}

-- ---- fewer arithmetic terms

suits_less : (literals : List Item) (fewer numbers : List Term) (same : Term → Term → Bool)
    (x : Assignment) → ((t : Term) → Contains fewer t → Contains numbers t)
    → Suits literals numbers same x → Suits literals fewer same x
suits_less literals fewer numbers same x among suits = record {
  satisfies = suits.satisfies;
  agrees = λ s t hs ht. suits.agrees s t (among s hs) (among t ht);
}

congruent_less : (other : Term → Term → Bool) (terms fewer numbers : List Term)
    (literals : List Item) → ((t : Term) → Contains fewer t → Contains numbers t)
    → IsCongruent other (record { terms = terms; numbers = numbers }) literals
    → IsCongruent other (record { terms = terms; numbers = fewer }) literals
congruent_less other terms fewer numbers literals among is = record {
  equivalence = is.equivalence;
  congruence = is.congruence;
  equations = is.equations;
  values = λ s t hs ht equal. is.values s t (among s hs) (among t ht)
      (λ x suits. equal x (suits_less literals fewer numbers other x among suits));
}

module _ (v : Shared) (is : IsShared v) (numbers : List (ℕ × Term)) (terms : List Term)
    (Admits : Assignment → Type 0) (Sound : Type 0) (sound : Sound)
    (of : AreNumbersOf v.graph numbers) (adds : AddsNumbers v.numbers numbers terms)
    (admits : AdmitsWith v.admits Admits []) where
  abbrev pub numbered : Shared
  numbered = record v { numbers = numbers; admits = Admits; sound = Sound }

  order_stays : (lit : Lit) → AreOrderSides v.numbers lit → AreOrderSides numbers lit
  order_stays (Equal a b) sides = tt
  order_stays (Apart a b) sides = tt
  order_stays (Below a b) sides =
      (number_stays v.numbers numbers terms adds a sides.0, number_stays v.numbers numbers terms adds b sides.1)
  order_stays (AtMost a b) sides =
      (number_stays v.numbers numbers terms adds a sides.0, number_stays v.numbers numbers terms adds b sides.1)

  forth : (x : Assignment) → v.admits x → Admits x
  forth x h = (admits x).1 (h, All-nil (λ f. pos 0 ≤ℤ gap_value x f))

  back : (x : Assignment) → Admits x → v.admits x
  back x h = ((admits x).0 h).0

  pub numbers_unsettled : IsUnsettled numbered (WereKnown v.numbers (number_of v.graph))
  numbers_unsettled = record {
    parts = record {
      sound = sound;
      graph = is.parts.graph;
      met = is.parts.met;
      sides = All-weaker (AreSides v.graph v.numbers) (AreSides v.graph numbers)
          (λ lit at. record {
            first = at.first;
            second = at.second;
            order = order_stays lit at.order;
          }) v.asserted is.parts.sides;
      equations = is.parts.equations;
      forbidden = is.parts.forbidden;
      members = is.parts.members;
      unbroken = is.parts.unbroken;
      numbers = of;
      told = All-weaker (AreToldIn v.graph v.numbers) (AreToldIn v.graph numbers)
          (λ pair at. record {
            first = number_stays v.numbers numbers terms adds pair.0 at.first;
            second = number_stays v.numbers numbers terms adds pair.1 at.second;
            together = at.together;
          }) v.told is.parts.told;
    };
    exact = λ x. ((λ h. (is.exact x).0 (back x h)), (λ h. forth x ((is.exact x).1 h)));
    some = (is.some.0, forth is.some.0 is.some.1);
    demanded = λ other congruent. demanded_by_least v is.parts.graph is.least other
        (congruent_less other (terms_of v.graph.nodes) (number_terms v.numbers)
        (number_terms numbers) (literals_in v)
        (number_term_stays v.numbers numbers terms adds) congruent);
    known_equal = λ a b an bn known x admitted. elim known [
      | inl (old_a, old_b, same) ↦ is.agree.one_value x (back x admitted) a b old_a old_b same
      | inr e ↦ ap (λ n. value x (node_term v.graph n)) e
    ];
  }

  -- nothing became arithmetic
  pub numbers_shared : length numbers ≡ length v.numbers → IsShared numbered
  numbers_shared count =
      settled numbered (WereKnown v.numbers (number_of v.graph)) numbers_unsettled
      (λ x admitted a b an bn same. is.agree.one_value x (back x admitted) a b (old a an)
      (old b bn) same)
      (λ a b two.
      let parted = is.agree.parted a b (record {
        first = old a two.first;
        second = old b two.second;
        different = two.different;
      }) in (parted.0, forth parted.0 parted.1, parted.2))
    where
      none : (more : List (ℕ × Term)) → length more ≡ 0 → more ≡ []
      none [] e = refl
      none (m ∷ ms) e = absurd (omega (arith, e))

      same : numbers ≡ v.numbers
      same = adds.numbers ∙ (ap (λ ns. v.numbers ++ ns) (none adds.more
          (omega (arith, count, ap length adds.numbers, length-append v.numbers adds.more)))
          ∙ append-nil v.numbers)

      old : (a : ℕ) → IsNumber numbers a → IsNumber v.numbers a
      old a h = subst (λ ns. IsNumber ns a) same h

-- the first ones are those that were arithmetic before
pub known_before : (old new : List (ℕ × Term)) (terms : List Term) (number : ℕ → ℕ)
    → AddsNumbers old new terms → (count : ℕ) → count ≡ length old → (Fewer : ℕ → ℕ → Type 0)
    → ((a b : ℕ) → Fewer a b → WereKnown (take count new) number a b)
    → (a b : ℕ) → Fewer a b → WereKnown old number a b
known_before old new terms number adds count is Fewer fewer a b h =
    subst (λ ns. WereKnown ns number a b)
    (ap (take count) adds.numbers ∙ ap (λ n. take n (old ++ adds.more)) is ∙ take-append_seam old adds.more) (fewer a b h)

pub known_same : (numbers : List (ℕ × Term)) (number : ℕ → ℕ) (a b : ℕ)
    → WereKnown numbers number a b → SameClass number a b
known_same numbers number a b (inl h) = h.2
known_same numbers number a b (inr e) = ap number e
