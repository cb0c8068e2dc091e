-- What a way brings as it goes on.
use Rattle.std.proofs.Common.{◌≡◌, ℕ, ◌<◌, ◌↔◌, ◌==◌, Bool, true, false, ◌⊎◌, inl, inr, List}
use Rattle.std.proofs.Common.{if◌then◌else◌, [], ◌∷◌, ◌++◌, length, refl, ap, sym, subst, ◌∙◌}
use Rattle.std.proofs.Common.{append-nil}
use Rattle.std.specs.Prelude.{Option, Some, None}
use Rattle.std.specs.List.{Contains}
use Rattle.std.proofs.lemmas.Bool.{cases_eq, eq-eqb, ne_eqb}
use Rattle.std.proofs.lemmas.List.{append_assoc}
use Rattle.std.proofs.lemmas.List.Elements.{Contains-append_cases, Contains-append_left}
use Rattle.std.proofs.lemmas.List.Elements.{Contains-append_right}
use Rattle.esc_term.proofs.Members.{Contains-none}
use Rattle.esc_egraph.specs.Graph.{Graph, number_of}
use Rattle.esc_match.specs.declared.way.Binding.{Binding}
use Rattle.esc_match.specs.declared.way.Way.{Way}
use Rattle.esc_match.specs.Order.{IsBefore}
use Rattle.esc_match.specs.WaysInside.{class_bound}
use Rattle.esc_match.proofs.Orders.{before_further}

-- the variable has been met
abbrev pub IsBound : Way → ℕ → Type 0
IsBound w k = (c : ℕ) × (class_bound w.bound k ≡ Some c)

-- the variables that were met have these classes
abbrev pub Agrees : (ℕ → ℕ) → Way → Type 0
Agrees class w = (k c : ℕ) → class_bound w.bound k ≡ Some c → class k ≡ c

-- the class of each variable is given by the node that has its number
abbrev pub IsGood : Graph → Way → Type 0
IsGood g w = (k c : ℕ) → class_bound w.bound k ≡ Some c → (c < length g.nodes)
    × (number_of g c ≡ c)

abbrev pub Earlier : Way → Way → Type 0
Earlier v w = IsBefore v.matched w.matched

-- a way goes on to another where something fits, which has these variables
pub record Grows (g : Graph) (Fits : (ℕ → ℕ) → List ℕ → Type 0) (names : List ℕ) (w v : Way) :
    Type 0 where
  pub more : List ℕ
  pub matched : v.matched ≡ w.matched ++ more
  pub sound : (class : ℕ → ℕ) → Agrees class v → Fits class more × Agrees class w
  pub keys : (k : ℕ) → IsBound v k ↔ (IsBound w k ⊎ Contains names k)
  pub good : IsGood g w → IsGood g v

-- what fits is found among the ways in which a way goes on
abbrev pub Finds : ((ℕ → ℕ) → List ℕ → Type 0) → Way → List Way → Type 0
Finds Fits w ways =
    (class : ℕ → ℕ) (more : List ℕ) → Fits class more → Agrees class w →
    (v : Way) × Contains ways v × (v.matched ≡ w.matched ++ more) × Agrees class v

-- ---- going on

-- where a way goes on twice, what it brings comes in turn
pub in_turn : (old between new first rest more : List ℕ) → between ≡ old ++ first
    → new ≡ between ++ rest → more ≡ first ++ rest → new ≡ old ++ more
in_turn old between new first rest more one two both =
    two ∙ (ap (λ ns. ns ++ rest) one ∙ (append_assoc old first rest
    ∙ ap (λ ns. old ++ ns) (sym both)))

pub stays : (g : Graph) (Fits : (ℕ → ℕ) → List ℕ → Type 0) (w : Way)
    → ((class : ℕ → ℕ) → Fits class []) → Grows g Fits [] w w
stays g Fits w fits = record {
  more = [];
  matched = sym (append-nil w.matched);
  sound = λ class a. (fits class, a);
  keys = λ k. (
    λ b. inl b,
    λ either. elim either [
      | inl b ↦ b
      | inr none ↦ absurd (Contains-none k none)
    ],
  );
  good = λ is. is;
}

pub joined : (g : Graph) (First Rest Fits : (ℕ → ℕ) → List ℕ → Type 0) (names others : List ℕ)
    (w u v : Way)
    → ((class : ℕ → ℕ) (first rest : List ℕ) → First class first → Rest class rest
    → Fits class (first ++ rest))
    → Grows g First names w u → Grows g Rest others u v → Grows g Fits (names ++ others) w v
joined g First Rest Fits names others w u v join first rest = record {
  more = first.more ++ rest.more;
  matched = in_turn w.matched u.matched v.matched first.more rest.more (first.more ++ rest.more)
      first.matched rest.matched refl;
  sound = λ class a.
      let after = rest.sound class a in
      let before = first.sound class after.1 in
      (join class first.more rest.more before.0 after.0, before.1);
  keys = λ k. (
    (λ b. elim ((rest.keys k).0 b) [
      | inl between ↦ elim ((first.keys k).0 between) [
        | inl old ↦ inl old
        | inr named ↦ inr (Contains-append_left names others k named)
      ]
      | inr named ↦ inr (Contains-append_right names others k named)
    ]),
    (λ either. elim either [
      | inl old ↦ (rest.keys k).1 (inl ((first.keys k).1 (inl old)))
      | inr named ↦ elim (Contains-append_cases names others k named) [
        | inl a ↦ (rest.keys k).1 (inl ((first.keys k).1 (inr a)))
        | inr b ↦ (rest.keys k).1 (inr b)
      ]
    ]),
  );
  good = λ is. rest.good (first.good is);
}

-- what goes on from ways in order is in order
pub further : (g : Graph) (F G : (ℕ → ℕ) → List ℕ → Type 0) (names others : List ℕ)
    (w x v y : Way) → Earlier w x → Grows g F names w v → Grows g G others x y → Earlier v y
further g F G names others w x v y before first second =
    subst (λ ns. IsBefore ns y.matched) (sym first.matched)
    (subst (IsBefore (w.matched ++ first.more)) (sym second.matched)
    (before_further w.matched x.matched first.more second.more before))

-- ---- what is bound

pub bound_left : (bs cs : List Binding) (k c : ℕ) → class_bound bs k ≡ Some c
    → class_bound (bs ++ cs) k ≡ Some c
unfolding class_bound
bound_left [] cs k c e = absurd (cc e)
bound_left (b ∷ bs) cs k c e = go (b.variable == k) (λ f. bound_left bs cs k c f) e
  where
    go : (t : Bool) → (class_bound bs k ≡ Some c → class_bound (bs ++ cs) k ≡ Some c)
        → (if t then Some b.class else class_bound bs k) ≡ Some c
        → (if t then Some b.class else class_bound (bs ++ cs) k) ≡ Some c
    go true rest e = e
    go false rest e = rest e

pub bound_right : (bs cs : List Binding) (k : ℕ) → class_bound bs k ≡ None
    → class_bound (bs ++ cs) k ≡ class_bound cs k
unfolding class_bound
bound_right [] cs k e = refl
bound_right (b ∷ bs) cs k e = go (b.variable == k) (λ f. bound_right bs cs k f) e
  where
    go : (t : Bool) → (class_bound bs k ≡ None → class_bound (bs ++ cs) k ≡ class_bound cs k)
        → (if t then Some b.class else class_bound bs k) ≡ None
        → (if t then Some b.class else class_bound (bs ++ cs) k) ≡ class_bound cs k
    go true rest e = absurd (cc e)
    go false rest e = rest e

pub bound_one : (k c : ℕ) → class_bound (record { variable = k; class = c } ∷ []) k ≡ Some c
unfolding class_bound
bound_one k c =
    ap (λ (t : Bool). if t then Some c else None) (eq-eqb k k refl)

pub bound_another : (k c j : ℕ) → (k ≡ j → ⊥)
    → class_bound (record { variable = k; class = c } ∷ []) j ≡ None
unfolding class_bound
bound_another k c j ne =
    ap (λ (t : Bool). if t then Some c else None) (ne_eqb k j ne)

pub bound_nothing : (k : ℕ) → class_bound [] k ≡ None
unfolding class_bound
bound_nothing k = refl

-- with one more binding a variable has the class that it had, or the new one
pub bound_cases : (bs : List Binding) (k d j c : ℕ)
    → class_bound (bs ++ record { variable = k; class = d } ∷ []) j ≡ Some c
    → (class_bound bs j ≡ Some c) ⊎ ((k ≡ j) × (d ≡ c))
bound_cases bs k d j c e = go (class_bound bs j) refl
  where
    go : (o : Option ℕ) → class_bound bs j ≡ o
        → (class_bound bs j ≡ Some c) ⊎ ((k ≡ j) × (d ≡ c))
    go (Some x) is =
        let both : Some x ≡ Some c =
        sym (bound_left bs (record { variable = k; class = d } ∷ []) j x is) ∙ e in
        inl (is ∙ both)
    go None is =
        let last : class_bound (record { variable = k; class = d } ∷ []) j ≡ Some c =
        sym (bound_right bs (record { variable = k; class = d } ∷ []) j is) ∙ e in
        elim (cases_eq k j) [
          | inl same ↦
              let here : Some d ≡ Some c =
              sym (bound_one j d)
              ∙ (ap (λ i. class_bound (record { variable = i; class = d } ∷ []) j) (sym same)
              ∙ last) in
              inr (same, cc here)
          | inr apart ↦
              let none : None ≡ Some c = sym (bound_another k d j apart) ∙ last in absurd (cc none)
        ]
