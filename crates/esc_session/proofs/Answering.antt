-- What a session does answers the command.
use Rattle.std.proofs.Common.{◌≡◌, ◌⊎◌, ℕ, nat_eq, Bool, true, false, ◌&&◌, ◌||◌, inl, inr, List}
use Rattle.std.proofs.Common.{[], ◌∷◌, ◌++◌, Option, Some, None, length, map, refl, sym, ap, subst}
use Rattle.std.proofs.Common.{◌∙◌, IsTrue, Result, Ok, Err, OnErr}
use Rattle.std.specs.List.{All, Contains, list_any}
use Rattle.std.specs.Option.{IsSome, is_none}
use Rattle.esc_fact.specs.declared.base.Base.{Base}
use Rattle.std.proofs.lemmas.Bool.{eqb-false, eqb-true}
use Rattle.std.proofs.lemmas.List.{map-append}
use Rattle.std.proofs.lemmas.List.Elements.{All-cons, All-head, All-map, All-nil, All-tail}
use Rattle.esc_term.specs.declared.formula.Formula.{Formula}
use Rattle.esc_term.specs.declared.term.Sym.{Sym}
use Rattle.esc_term.proofs.Members.{Contains-cases, Contains-here, Contains-later, Contains-none}
use Rattle.esc_answers.specs.State.{AreRules, Batch as Assumed, IsDefined, IsPopped, State}
use Rattle.esc_answers.specs.State.{with_batch}
use Rattle.esc_session.specs.Acts.{Drops, Joins, Rests}
use Rattle.esc_session.specs.SessionInside.{is_for}
use Rattle.esc_session.specs.View.{assumed_by, state_of}
use Rattle.esc_session.specs.declared.batch.Batch.{Batch}
use Rattle.esc_session.specs.declared.session.Session.{Session}

abbrev made : List Formula → List Assumed → ℕ → State
made fs bs n = record { assumed = fs; batches = bs; goals = n }

abbrev begun_at : ℕ → Option (Sym × ℕ) → Assumed
begun_at n predicate = record { first = n; predicate = predicate }

-- ---- states

same_state : (fs gs : List Formula) (bs cs : List Assumed) (m n : ℕ) → fs ≡ gs → bs ≡ cs → m ≡ n
    → made fs bs m ≡ made gs cs n
same_state fs gs bs cs m n a b c =
    ap (λ xs. made xs bs m) a ∙ (ap (λ ys. made gs ys m) b ∙ ap (made gs cs) c)

pub state_rests : (s t : Session) → Rests s t → t.goals ≡ s.goals → state_of t ≡ state_of s
state_rests s t h goals = same_state t.base.background s.base.background
    (map assumed_by t.batches) (map assumed_by s.batches) t.goals s.goals
    (ap (λ (base : Base). base.background) h.base) (ap (map assumed_by) h.batches) goals

module _ (s t : Session) (predicate : Option (Sym × ℕ)) (fs : List Formula)
    (h : Joins s t predicate fs) where
  batch_is : assumed_by h.batch ≡ begun_at (length s.base.background) predicate
  batch_is = ap (λ n. begun_at n h.batch.predicate) h.first
      ∙ ap (begun_at (length s.base.background)) h.predicate_is

  pub state_joins : t.goals ≡ s.goals → state_of t ≡ with_batch (state_of s) predicate fs
  state_joins goals = same_state t.base.background (s.base.background ++ fs)
      (map assumed_by t.batches)
      (map assumed_by s.batches ++ begun_at (length s.base.background) predicate ∷ [])
      t.goals s.goals (ap (λ (base : Base). base.background) h.base)
      (ap (map assumed_by) h.batches ∙ (map-append assumed_by s.batches (h.batch ∷ [])
      ∙ ap (λ b. map assumed_by s.batches ++ b ∷ []) batch_is)) goals

pub state_drops : (s t : Session) → Drops s t → t.goals ≡ s.goals
    → IsPopped (state_of s) (state_of t)
state_drops s t h goals = record {
  push = assumed_by h.push;
  rules = map assumed_by h.rules;
  batches = ap (map assumed_by) h.batches
      ∙ map-append assumed_by t.batches (h.push ∷ h.rules);
  is_push = h.is_push;
  are_rules = All-map (λ a. IsSome a.predicate) assumed_by h.rules h.are_rules;
  assumed = ap (λ (base : Base). base.background) h.base;
  goals = goals;
}

-- ---- look-ups

is_there : (predicate : Option (Sym × ℕ)) → is_none predicate ≡ false → IsSome predicate
is_there (Some p) h = refl
is_there None h = absurd cc

abbrev no_rule : Batch → Bool
no_rule b = is_none b.predicate

-- where no push is in force, all batches are rules
rules_here : (bs : List Batch) → list_any no_rule bs ≡ false → All (λ b. IsSome b.predicate) bs
rules_here [] h = All-nil (λ b. IsSome b.predicate)
rules_here (b ∷ bs) h = pick (no_rule b) refl (rules_here bs) h
  where
    pick : (x : Bool) → no_rule b ≡ x
        → (list_any no_rule bs ≡ false → All (λ b. IsSome b.predicate) bs)
        → (x || list_any no_rule bs) ≡ false → All (λ b. IsSome b.predicate) (b ∷ bs)
    pick true is later e = absurd cc
    pick false is later e =
        All-cons (λ b. IsSome b.predicate) b bs (is_there b.predicate is) (later e)

pub all_rules : (bs : List Batch) → list_any no_rule bs ≡ false → AreRules (map assumed_by bs)
all_rules bs h = All-map (λ a. IsSome a.predicate) assumed_by bs (rules_here bs h)

-- what the batches are rules for
abbrev predicates : List Batch → List (Option (Sym × ℕ))
predicates bs = map (λ (a : Assumed). a.predicate) (map assumed_by bs)

abbrev sym_at : ℕ → Sym
sym_at n = record { 0 = n }

abbrev rule_of : Sym → ℕ → Option (Sym × ℕ)
rule_of name count = Some (name, count)

module _ (name : Sym) (count : ℕ) where
  is_it : (p : Option (Sym × ℕ)) → is_for name count p ≡ true → p ≡ rule_of name count
  is_it None h = absurd cc
  is_it (Some (of, len)) h = pick (nat_eq of.0 name.0) refl (nat_eq len count) refl h
    where
      pick : (x : Bool) → nat_eq of.0 name.0 ≡ x → (y : Bool) → nat_eq len count ≡ y
          → (x && y) ≡ true → rule_of of len ≡ rule_of name count
      pick true d true e h =
          let same : of ≡ name = ap sym_at (eqb-true of.0 name.0 d) in
          ap (λ (s : Sym). rule_of s len) same ∙ ap (rule_of name) (eqb-true len count e)
      pick true d false e h = absurd cc
      pick false d y e h = absurd cc

  for_itself : is_for name count (Some (name, count)) ≡ true
  for_itself = pick (nat_eq name.0 name.0) refl (nat_eq count count) refl
    where
      pick : (x : Bool) → nat_eq name.0 name.0 ≡ x → (y : Bool) → nat_eq count count ≡ y
          → (x && y) ≡ true
      pick true d true e = refl
      pick true d false e = absurd (eqb-false count count e refl)
      pick false d y e = absurd (eqb-false name.0 name.0 d refl)

  abbrev for_it : Batch → Bool
  for_it b = is_for name count b.predicate

  defined_here : (bs : List Batch) → list_any for_it bs ≡ true
      → Contains (predicates bs) (Some (name, count))
  defined_here [] h = absurd cc
  defined_here (b ∷ bs) h = pick (for_it b) refl (defined_here bs) h
    where
      pick : (x : Bool) → for_it b ≡ x
          → (list_any for_it bs ≡ true → Contains (predicates bs) (Some (name, count)))
          → (x || list_any for_it bs) ≡ true → Contains (predicates (b ∷ bs)) (Some (name, count))
      pick true is later h = subst (Contains (predicates (b ∷ bs))) (is_it b.predicate is)
          (Contains-here b.predicate (predicates bs))
      pick false is later h =
          Contains-later b.predicate (predicates bs) (Some (name, count)) (later h)

  undefined_here : (bs : List Batch) → list_any for_it bs ≡ false
      → Contains (predicates bs) (Some (name, count)) → ⊥
  undefined_here [] h there = Contains-none (Some (name, count)) there
  undefined_here (b ∷ bs) h there = pick (for_it b) refl (undefined_here bs) h
      (Contains-cases b.predicate (predicates bs) (Some (name, count)) there)
    where
      pick : (x : Bool) → for_it b ≡ x
          → (list_any for_it bs ≡ false → Contains (predicates bs) (Some (name, count)) → ⊥)
          → (x || list_any for_it bs) ≡ false
          → (b.predicate ≡ rule_of name count) ⊎ Contains (predicates bs) (Some (name, count)) → ⊥
      pick true is later h at = absurd cc
      pick false is later h (inl same) =
          let e : true ≡ false = sym for_itself ∙ (ap (is_for name count) (sym same) ∙ is) in
          absurd cc
      pick false is later h (inr at) = later h at

  pub is_defined : (s : Session) → list_any for_it s.batches ≡ true
      → IsDefined (state_of s) (name, count)
  is_defined s h = defined_here s.batches h

  pub not_defined : (s : Session) → list_any for_it s.batches ≡ false
      → IsDefined (state_of s) (name, count) → ⊥
  not_defined s h = undefined_here s.batches h

not_there : (predicate : Option (Sym × ℕ)) → is_none predicate ≡ true → IsSome predicate → ⊥
not_there (Some p) is h = absurd cc
not_there None is h = absurd cc

-- where a push is in force, not all batches are rules
pub not_all_rules : (bs : List Batch) → list_any no_rule bs ≡ true → AreRules (map assumed_by bs)
    → ⊥
not_all_rules [] h rules = absurd cc
not_all_rules (b ∷ bs) h rules = pick (no_rule b) refl (not_all_rules bs) h
  where
    pick : (x : Bool) → no_rule b ≡ x
        → (list_any no_rule bs ≡ true → AreRules (map assumed_by bs) → ⊥)
        → (x || list_any no_rule bs) ≡ true → ⊥
    pick true is later e = not_there b.predicate is
        (All-head (λ (a : Assumed). IsSome a.predicate) (assumed_by b) (map assumed_by bs) rules)
    pick false is later e =
        later e (All-tail (λ (a : Assumed). IsSome a.predicate) (assumed_by b)
        (map assumed_by bs) rules)

-- ---- where memory is wanting

pub on_err : {X Y : Type 0} {P : Type 0} (r : Result X Y) → P → OnErr r P
on_err (Ok x) h = tt
on_err (Err y) h = h

-- ---- one formula

pub all_of_one : (x : Bool) → IsTrue x → IsTrue (x && true)
all_of_one true h = h
all_of_one false h = h
