-- Rules end, and then the push before them.
use Rattle.std.proofs.Common.{◌≡◌, ◌<◌, ◌≤◌, ℕ, Bool, true, false, List, [], ◌∷◌, ◌++◌}
use Rattle.std.proofs.Common.{None, Some, Option, append_assoc, append-nil, length, map, reverse}
use Rattle.std.proofs.Common.{take, refl, sym, ap, subst, ◌∙◌, arith}
use Rattle.std.specs.Option.{IsSome, is_some}
use Rattle.std.proofs.lemmas.List.{length_push, map-append, reverse-append, take-append-drop}
use Rattle.std.proofs.lemmas.List.{take-append-le}
use Rattle.std.proofs.Math.Seq.{take-length}
use Rattle.std.proofs.lemmas.List.Elements.{All-cons, All-nil, All-push}
use Rattle.esc_term.specs.declared.formula.Formula.{Formula}
use Rattle.esc_term.specs.declared.term.Sym.{Sym}
use Rattle.esc_answers.specs.State.{AreRules}
use Rattle.esc_fact.specs.declared.base.Base.{Base}
use Rattle.esc_search.specs.declared.search.Search.{Search}
use Rattle.esc_session.specs.Acts.{Drops}
use Rattle.esc_session.specs.Back.{LeadsBack}
use Rattle.esc_session.specs.PoppingInside.{DropsOne, DropsRules}
use Rattle.esc_session.specs.SessionInside.{LeavesRest}
use Rattle.esc_session.specs.View.{assumed_by, state_of}
use Rattle.esc_session.specs.declared.batch.Batch.{Batch}
use Rattle.esc_session.specs.declared.session.Session.{Session}
use Rattle.std.proofs.Common.{drop}

-- ---- nothing went yet

pub none_went : (s : Session) → DropsRules s s
none_went s = record {
  rules = [];
  batches = sym (append-nil s.batches);
  are_rules = All-nil (λ b. IsSome b.predicate);
  kept = length s.base.background;
  base = ap (λ fs. record s.base { background = fs }) (sym (take-length s.base.background));
  search = λ older u h. h;
}

pub leaves_here : (s : Session) → LeavesRest s s
leaves_here s = record { alloc = refl; goals = refl; limits = refl; tally = refl }

pub leaves_then : (s t u : Session) → LeavesRest s t → LeavesRest t u → LeavesRest s u
leaves_then s t u h k = record {
  alloc = k.alloc ∙ h.alloc;
  goals = k.goals ∙ h.goals;
  limits = k.limits ∙ h.limits;
  tally = k.tally ∙ h.tally;
}

-- ---- one more goes

some_there : (predicate : Option (Sym × ℕ)) → true ≡ is_some predicate → IsSome predicate
some_there (Some p) h = refl
some_there None h = absurd cc

none_there : (predicate : Option (Sym × ℕ)) → false ≡ is_some predicate → predicate ≡ None
none_there (Some p) h = absurd cc
none_there None h = refl

-- the first of the first ones
pub take_front : (n kept : ℕ) (fs : List Formula) → n ≤ length (take kept fs)
    → take n (take kept fs) ≡ take n fs
take_front n kept fs within =
    sym (take-append-le n (take kept fs) (drop kept fs) within)
    ∙ ap (take n) (take-append-drop kept fs)

module _ (s t u : Session) (went : DropsRules s t) (is_rule : Bool)
    (one : DropsOne t u is_rule) where
  abbrev b : Batch
  b = one.batch

  went_batches : s.batches ≡ u.batches ++ b ∷ went.rules
  went_batches = went.batches ∙ (ap (λ (bs : List Batch). bs ++ went.rules) one.batches
      ∙ append_assoc u.batches (b ∷ []) went.rules)

  within : b.first ≤ length (take went.kept s.base.background)
  within = subst (λ (base : Base). b.first ≤ length base.background) went.base one.first

  went_base : u.base ≡ record s.base { background = take b.first s.base.background }
  went_base = one.base
      ∙ (ap (λ (base : Base). record base { background = take b.first base.background })
      went.base
      ∙ ap (λ fs. record s.base { background = fs })
      (take_front b.first went.kept s.base.background within))

  turned : (older : List Batch)
      → reverse (b ∷ went.rules) ++ older ≡ reverse went.rules ++ b ∷ older
  turned older =
      ap (λ (bs : List Batch). bs ++ older) (reverse-append (b ∷ []) went.rules)
      ∙ append_assoc (reverse went.rules) (b ∷ []) older

  went_search : (older : List Batch) (v : Search)
      → LeadsBack s.search (reverse went.rules ++ b ∷ older) v → LeadsBack u.search older v
  went_search older v h = one.search older v (went.search (b ∷ older) v h)

  pub rule_went : is_rule ≡ true → DropsRules s u
  rule_went rule = record {
    rules = b ∷ went.rules;
    batches = went_batches;
    are_rules = All-cons (λ b. IsSome b.predicate) b went.rules
        (some_there b.predicate (sym rule ∙ one.rule)) went.are_rules;
    kept = b.first;
    base = went_base;
    search = λ older v h.
        went_search older v
        (subst (λ (bs : List Batch). LeadsBack s.search bs v) (turned older) h);
  }

  pub push_went : is_rule ≡ false → Drops s u
  push_went push = record {
    push = b;
    rules = went.rules;
    batches = went_batches;
    is_push = none_there b.predicate (sym push ∙ one.rule);
    are_rules = went.are_rules;
    base = went_base;
    search = went_search;
  }

  -- where a push was in force and a rule went, it still is
  pub push_still : is_rule ≡ true → (AreRules (state_of t).batches → ⊥)
      → AreRules (state_of u).batches → ⊥
  push_still rule push rules =
      push (subst AreRules
      (sym (ap (map assumed_by) one.batches ∙ map-append assumed_by u.batches (b ∷ [])))
      (All-push (λ a. IsSome a.predicate) (map assumed_by u.batches) (assumed_by b) rules
      (some_there b.predicate (sym rule ∙ one.rule))))

  pub fewer : length u.batches < length t.batches
  fewer = omega (arith, ap length one.batches, length_push u.batches b)

-- where a push is in force there is a batch
pub some_batch : (s : Session) → (AreRules (state_of s).batches → ⊥) → s.batches ≡ [] → ⊥
some_batch s push none =
    push (subst (λ (bs : List Batch). AreRules (map assumed_by bs)) (sym none)
    (All-nil (λ a. IsSome a.predicate)))
