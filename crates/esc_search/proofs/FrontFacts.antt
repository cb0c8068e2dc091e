-- The facts that name a formula of the base are logged, and become live.
use Rattle.std.proofs.Common.{◌≡◌, ℕ, ◌<◌, ◌≤◌, ◌+◌, suc, Bool, true, false, List, [], ◌∷◌, ◌++◌}
use Rattle.std.proofs.Common.{zero, Option, Some, None, Result, Ok, Err, length, map, take, drop}
use Rattle.std.proofs.Common.{get_or}
use Rattle.std.proofs.Common.{append_assoc, refl, sym, ap, ap₂, subst, subst₂, ◌∙◌}
use Rattle.std.proofs.Common.{arith}
use Rattle.std.specs.Prelude.{IsSome, OnOk, slice_get}
use Rattle.std.specs.List.{All, Contains, cons_option, filter_map, range_with_len}
use Rattle.std.specs.Option.{option_map}
use Rattle.std.proofs.lemmas.List.{get_or_append_left, length_push, length-take, map_push}
use Rattle.std.proofs.lemmas.List.{take_all, take_more}
use Rattle.std.proofs.Math.Seq.{take-append_seam}
use Rattle.std.proofs.lemmas.List.Elements.{All-contains, All-head}
use Rattle.std.proofs.lemmas.List.Elements.{All-tail, filter_map-append}
use Rattle.std.proofs.lemmas.List.FromFn.{length-range_with_len}
use Rattle.std.proofs.lemmas.Option.{get_or_from_slice_get, slice_get-get_or, slice_get_within}
use Rattle.esc_term.specs.declared.formula.Formula.{Formula}
use Rattle.esc_term.specs.Model.{Model, read_in}
use Rattle.esc_term.specs.Refuted.{AllTrue}
use Rattle.esc_fact.specs.Fact.{IsFact, formula_of, formulas_of}
use Rattle.esc_fact.specs.Legal.{first_facts}
use Rattle.esc_fact.specs.declared.base.Base.{Base}
use Rattle.esc_fact.specs.declared.fact.Fact.{Fact}
use Rattle.esc_fact.specs.declared.fact.Fact.TheVariants as fact
use Rattle.esc_live.specs.Promises.{IsBranch, IsGiven, IsSoundIn}
use Rattle.esc_live.specs.View.{live_on, logged}
use Rattle.esc_live.specs.declared.branch.LiveBranch.{LiveBranch}
use Rattle.esc_outcome.specs.Grown.{Grown}
use Rattle.esc_outcome.specs.GrownLaws.{with_fact}
use Rattle.esc_outcome.specs.Tree.{Side}
use Rattle.esc_outcome.specs.declared.branch.Branch.{Branch}
use Rattle.esc_outcome.specs.declared.branch.Split.{Split}
use Rattle.esc_fact.specs.Log.{Logs}
use Rattle.esc_outcome.proofs.FirstFacts.{empty_is_grown, first_legal, given_at, givens}
use Rattle.esc_outcome.proofs.FirstFacts.{grown_by_first, many}
use Rattle.esc_outcome.proofs.Paths.{parted_at, slice_get_append_left, slice_get_push}
use Rattle.esc_search.specs.Proving.{IsReady, branch_of}
use Rattle.esc_search.specs.SearchInside.{IsBegun, IsLogged}
use Rattle.esc_search.specs.declared.search.Search.{Search}
use Rattle.esc_search.proofs.LiveFacts.{slice_get-contained}

-- ---- places

pub range_push : (a n : ℕ) → range_with_len a (suc n) ≡ range_with_len a n ++ (a + n) ∷ []
range_push a zero = ap (λ k. k ∷ []) (omega arith)
range_push a (suc n) =
    let shift : (a + 1) + n ≡ a + suc n = omega arith in
    ap (λ ks. a ∷ ks) (range_push (a + 1) n
    ∙ ap (λ k. range_with_len (a + 1) n ++ k ∷ []) shift)

-- elements behind others do not change what stands at places of theirs
pub filter_map-places_more : {X : Type 0} (xs ys : List X) (ks : List ℕ)
    → All (λ k. k < length xs) ks
    → filter_map (slice_get (xs ++ ys)) ks ≡ filter_map (slice_get xs) ks
filter_map-places_more xs ys [] all = refl
filter_map-places_more xs ys (k ∷ ks) all =
    ap₂ cons_option (slice_get_append_left xs ys k (All-head (λ i. i < length xs) k ks all))
    (filter_map-places_more xs ys ks (All-tail (λ i. i < length xs) k ks all))

-- ---- the branch of a front of the first facts

abbrev front_branch : List Fact → Branch
front_branch log = record { log = log; sides = map (λ fact. None) log; splits = []; under = None }

longer_front : (xs ys : List Fact) (x : Fact) → ys ≡ xs ++ x ∷ []
    → front_branch ys ≡ with_fact (front_branch xs) x
longer_front xs ys x e =
    ap front_branch e
    ∙ ap (λ (sides : List Side). record {
      log = xs ++ x ∷ [];
      sides = sides;
      splits = [];
      under = None;
    }) (map_push (λ (f : Fact). None) xs x)

front_grown : (base : Base) (depth n : ℕ) → n ≤ length (first_facts base)
    → Grown base depth (front_branch (take n (first_facts base)))
front_grown base depth zero below = empty_is_grown base depth
front_grown base depth (suc n) below =
    let first = first_facts base in
    let f = get_or first n fact.NegGoal in
    let within : n < length first = omega (arith, below) in
    let next : suc n ≡ n + 1 = omega arith in
    subst (Grown base depth)
    (sym (longer_front (take n first) (take (suc n) first) f
    (ap (λ k. take k first) next ∙ take_more first n fact.NegGoal within)))
    (grown_by_first base depth (front_branch (take n first)) f (drop (suc n) first)
    (front_grown base depth n (omega (arith, below)))
    (parted_at first n f (slice_get-get_or first n fact.NegGoal within)))

pub begun_grown : (base : Base) (s : Search) → IsBegun base s
    → Grown base s.limits.depth (branch_of s)
begun_grown base s begun =
    let first = first_facts base in
    let few : length s.log ≤ length first =
    omega (arith, ap length begun.log, length-take (length s.log) first) in
    let is : branch_of s ≡ front_branch s.log =
    ap (λ (x : List Side). record { log = s.log; sides = x; splits = s.splits; under = s.under })
    begun.sides
    ∙ (ap (λ (x : List Split). record {
      log = s.log;
      sides = map (λ (f : Fact). None) s.log;
      splits = x;
      under = s.under;
    }) begun.splits
    ∙ ap (λ (x : Side). record {
      log = s.log;
      sides = map (λ (f : Fact). None) s.log;
      splits = [];
      under = x;
    }) begun.under) in
    subst (Grown base s.limits.depth) (sym (is ∙ ap front_branch begun.log))
    (front_grown base s.limits.depth (length s.log) few)

-- ---- a fact is logged

pub begun_ready : (base : Base) (s : Search) → IsReady base s → IsBegun base s
begun_ready base s ready = record {
  log = ready.log;
  formulas = ready.formulas;
  live = ready.live ∙ ap (range_with_len 0)
      (sym (ap length ready.live ∙ length-range_with_len 0 (length s.log)));
  few = omega (arith, ap length ready.live, length-range_with_len 0 (length s.log));
  sides = ready.sides;
  splits = ready.splits;
  under = ready.under;
  branch = ready.branch;
  given = ready.given;
  sound = ready.sound;
  limit = ready.limit;
}

module _ (base : Base) (s : Search) (begun : IsBegun base s) (f : Fact)
    (next : slice_get (first_facts base) (length s.log) ≡ Some f) where
  abbrev first : List Fact
  first = first_facts base

  abbrev rest : List Fact
  rest = drop (suc (length s.log)) first

  parted : first ≡ s.log ++ (f ∷ rest)
  parted = parted_at first (length s.log) f next ∙ ap (λ front. front ++ (f ∷ rest)) (sym begun.log)

  pub new_fact : Contains s.log f → ⊥
  new_fact h =
      (first_legal base).differ h.0 (length s.log) f h.1
      (slice_get_within first (length s.log) f next)
      (ap (λ list. get_or list h.0 f) parted
      ∙ (get_or_append_left s.log (f ∷ rest) f h.0 h.1 ∙ h.2)
      ∙ sym (get_or_from_slice_get first (length s.log) f f next))

  pub is_fact : IsFact base f
  is_fact = All-contains (IsFact base) first f (first_legal base).are_facts
      (slice_get-contained first (length s.log) f next)

  module _ (w : LiveBranch) (g : Formula) (is : formula_of base f ≡ Some g)
      (longer : logged w ≡ logged s.branch ++ g ∷ [])
      (same : w ≡ record s.branch { book = record s.branch.book { logged = logged w } })
      (is_branch : IsBranch w) (given : IsGiven w)
      (sound : (M : Model) → IsSoundIn M s.branch → IsSoundIn M w) where
    abbrev pub with_first : Search
    with_first = record s {
      log = s.log ++ f ∷ [];
      sides = s.sides ++ None ∷ [];
      branch = w;
    }

    same_live : w.book.live ≡ s.branch.book.live
    same_live = ap (λ (v : LiveBranch). v.book.live) same

    live_same : live_on w ≡ live_on s.branch
    live_same =
        ap₂ (λ fs ks. filter_map (slice_get fs) ks) longer same_live
        ∙ filter_map-places_more (logged s.branch) (g ∷ []) s.branch.book.live
        begun.branch.book.within

    pub formulas_more : logged w ≡ formulas_of base (s.log ++ f ∷ [])
    formulas_more =
        longer ∙ (ap (λ fs. fs ++ g ∷ []) begun.formulas
        ∙ sym (filter_map-append (formula_of base) s.log (f ∷ [])
        ∙ ap (λ o. formulas_of base s.log ++ cons_option o []) is))

    pub begun_more : IsBegun base with_first
    begun_more = record {
      log = sym (ap (take (length (s.log ++ f ∷ [])))
          (parted ∙ sym (append_assoc s.log (f ∷ []) rest))
          ∙ take-append_seam (s.log ++ f ∷ []) rest);
      formulas = formulas_more;
      live = same_live ∙ (begun.live ∙ ap (λ (ks : List ℕ). range_with_len 0 (length ks))
          (sym same_live));
      few = omega (arith, begun.few, ap length same_live, length_push s.log f);
      sides = ap (λ sides. sides ++ None ∷ []) begun.sides
          ∙ sym (map_push (λ (h : Fact). None) s.log f);
      splits = begun.splits;
      under = begun.under;
      branch = is_branch;
      given = given;
      sound = λ M all. sound M (begun.sound M (subst (AllTrue (read_in M)) live_same all));
      limit = ap (λ (v : LiveBranch). v.sharing.theory.limit) same ∙ begun.limit;
    }

    pub begun_with : (log : List Fact) (sides : List Side) → log ≡ s.log ++ f ∷ []
        → sides ≡ s.sides ++ None ∷ []
        → IsBegun base (record s { log = log; sides = sides; branch = w })
    begun_with log sides l x =
        subst₂ (λ a b. IsBegun base (record s { log = a; sides = b; branch = w })) (sym l) (sym x)
        begun_more

pub logs_new : (old now : List Fact) (f : Fact) (new : Bool) → (Contains old f → ⊥)
    → Logs old f now new → now ≡ old ++ f ∷ []
logs_new old now f true none h = h.1
logs_new old now f false none h = absurd (none h.0)

pub cut_back : (old now : List Fact) (f : Fact) (len : ℕ) → len ≡ length old
    → now ≡ old ++ f ∷ [] → take len now ≡ old
cut_back old now f len l e = ap₂ take l e ∙ take-append_seam old (f ∷ [])

pub cut_within : (old now : List Fact) (f : Fact) (len : ℕ) → len ≡ length old
    → now ≡ old ++ f ∷ [] → len ≤ length now
cut_within old now f len l e = omega (arith, l, ap length e, length_push old f)

-- ---- the facts in order

module _ (base : Base) where
  pub given_next : (n : ℕ) → n < length base.background
      → slice_get (first_facts base) n ≡ Some (fact.Given n)
  given_next n below =
      let there : n < length (givens base) = omega (arith, below, many base) in
      slice_get_append_left (givens base)
      (cons_option (option_map (λ f. fact.NegGoal) base.negated) []) n there
      ∙ (slice_get-get_or (givens base) n fact.NegGoal there
      ∙ ap Some (given_at base n fact.NegGoal there))

  with_goal : IsSome base.negated → first_facts base ≡ givens base ++ fact.NegGoal ∷ []
  with_goal some = go base.negated some
    where
      go : (o : Option Formula) → IsSome o
          → givens base ++ cons_option (option_map (λ f. fact.NegGoal) o) []
          ≡ givens base ++ fact.NegGoal ∷ []
      go None h = absurd (cc)
      go (Some f) h = refl

  pub goal_next : (n : ℕ) → IsSome base.negated → n ≡ length base.background
      → slice_get (first_facts base) n ≡ Some fact.NegGoal
  goal_next n some last =
      ap₂ slice_get (with_goal some) (last ∙ sym (many base))
      ∙ slice_get_push (givens base) fact.NegGoal

  pub first_count : IsSome base.negated
      → length (first_facts base) ≡ length base.background + 1
  first_count some =
      ap length (with_goal some)
      ∙ (length_push (givens base) fact.NegGoal ∙ ap (λ n. n + 1) (many base))

  pub whole_log : (s : Search) → IsBegun base s → length (first_facts base) ≤ length s.log
      → s.log ≡ first_facts base
  whole_log s begun all = begun.log ∙ take_all (length s.log) (first_facts base) all

  -- the last one
  pub logged_last : {X E : Type 0} (s t : Search) (r : Result X E) → IsSome base.negated
      → length s.log ≡ length base.background → OnOk r (IsBegun base t)
      → OnOk r (t.log ≡ s.log ++ fact.NegGoal ∷ []) → OnOk r (IsLogged base t)
  logged_last s t (Ok u) goal all begun log = (
    begun,
    whole_log t begun (omega (
      arith,
      ap length log,
      length_push s.log fact.NegGoal,
      all,
      first_count goal,
    )),
  )
  logged_last s t (Err e) goal all begun log = tt
