-- What a walk of a term finds at each form of term.
use Rattle.std.proofs.Common.{◌≡◌, ℕ, ◌-◌, ℤ, Bool, true, false, not, ◌&&◌, ◌||◌, cond, nat_lt}
use Rattle.std.proofs.Common.{nat_le, if◌then◌else◌, List, [], ◌∷◌, ◌++◌, map, refl, ap, sym, subst}
use Rattle.std.proofs.Common.{◌∙◌}
use Rattle.std.specs.List.{filter, flat_map, fold, list_all, list_any}
use Rattle.std.proofs.lemmas.List.{map-append}
use Rattle.std.proofs.lemmas.List.Elements.{filter-append}
use Rattle.std.proofs.lemmas.List.Folds.{list_any-append}
use Rattle.std.proofs.lemmas.List.Sums.{fold-append}
use denote.Hole.Carrier.{roll}
use Rattle.esc_term.specs.declared.term.Head.{Head}
use Rattle.esc_term.specs.declared.term.Term.{Term}
use Rattle.esc_term.specs.declared.term.Term.TheVariants.{Num, Var, App}
use Rattle.esc_term.specs.declared.term.Term.TheOpen.{Term-F}
use Rattle.esc_term.specs.declared.term.Term.TheViews.{roll-Term, out-roll-Term}
use Rattle.esc_term.specs.declared.term.Term.TheFolds.{map-Term, ind-Term}
use Rattle.esc_term.specs.declared.formula.Quant.{Quant}
use Rattle.esc_term.specs.Term.{subterms, with_once}
use Rattle.esc_term.proofs.Pairs.{list_any-map}
use Rattle.esc_term.proofs.TermLevels.{subterms-Num, subterms-Var, subterms-App}
use Rattle.esc_term.proofs.Tests.{list_all-flat_map}
use Rattle.esc_cover.specs.Classes.{has}
use Rattle.esc_trigger.specs.Candidates.{is_application, is_application_form, is_candidate}
use Rattle.esc_trigger.specs.Variables.{variables_of, lowered, is_clear, is_sum_head, calculates}
use Rattle.esc_trigger.specs.WalkInside.{mentions, with_candidate, candidates_in}
use Rattle.esc_trigger.proofs.TermLevels.{variables_of-Num, variables_of-Var, variables_of-App}
use Rattle.esc_trigger.proofs.TermLevels.{lowered-Num, lowered-Var, lowered-App, calculates-Num}
use Rattle.esc_trigger.proofs.TermLevels.{calculates-Var, calculates-App}

-- ---- tests of lists of lists

pub list_any-flat_map : {X A : Type 0} (p : A → Bool) (f : X → List A) (xs : List X)
    → list_any p (flat_map f xs) ≡ list_any (λ x. list_any p (f x)) xs
list_any-flat_map p f [] = refl
list_any-flat_map p f (x ∷ xs) =
    list_any-append p (f x) (flat_map f xs)
    ∙ ap (λ b. list_any p (f x) || b) (list_any-flat_map p f xs)

-- ---- what stands in each form

pub is_clear-Num : (d : ℕ) (n : ℤ) → is_clear d (Num n) ≡ true
is_clear-Num d n = ap (list_all (nat_le d)) (variables_of-Num n)

pub is_clear-Var : (d k : ℕ) → is_clear d (Var k) ≡ (nat_le d k && true)
is_clear-Var d k = ap (list_all (nat_le d)) (variables_of-Var k)

pub is_clear-App : (d : ℕ) (head : Head) (args : List Term)
    → is_clear d (App head args) ≡ list_all (is_clear d) args
is_clear-App d head args =
    ap (list_all (nat_le d)) (variables_of-App head args)
    ∙ list_all-flat_map (nat_le d) variables_of args

pub mentions-Num : (count d : ℕ) (n : ℤ) → mentions count d (Num n) ≡ false
unfolding mentions
mentions-Num count d n = ap (list_any (λ k. nat_lt (k - d) count)) (variables_of-Num n)

pub mentions-Var : (count d k : ℕ) → mentions count d (Var k) ≡ (nat_lt (k - d) count || false)
unfolding mentions
mentions-Var count d k = ap (list_any (λ k. nat_lt (k - d) count)) (variables_of-Var k)

pub mentions-App : (count d : ℕ) (head : Head) (args : List Term)
    → mentions count d (App head args) ≡ list_any (mentions count d) args
unfolding mentions
mentions-App count d head args =
    ap (list_any (λ k. nat_lt (k - d) count)) (variables_of-App head args)
    ∙ list_any-flat_map (λ k. nat_lt (k - d) count) variables_of args

-- ---- a term as it reads outside

flat_map-lowered : (d : ℕ) (P : Term → Type 0)
    → ((t : Term) → P t → variables_of (lowered d t) ≡ map (λ k. k - d) (variables_of t))
    → (es : List ((t : Term) × P t))
    → flat_map variables_of (map (lowered d) (map (λ e. e.0) es))
    ≡ map (λ k. k - d) (flat_map variables_of (map (λ e. e.0) es))
flat_map-lowered d P step [] = refl
flat_map-lowered d P step (e ∷ es) =
    ap (λ ks. ks ++ flat_map variables_of (map (lowered d) (map (λ e. e.0) es))) (step e.0 e.1)
    ∙ ap (λ ks. map (λ k. k - d) (variables_of e.0) ++ ks) (flat_map-lowered d P step es)
    ∙ sym (map-append (λ k. k - d) (variables_of e.0) (flat_map variables_of (map (λ e. e.0) es)))

any-lowered : (d : ℕ) (P : Term → Type 0)
    → ((t : Term) → P t → calculates (lowered d t) ≡ calculates t) → (es : List ((t : Term) × P t))
    → list_any calculates (map (lowered d) (map (λ e. e.0) es))
    ≡ list_any calculates (map (λ e. e.0) es)
any-lowered d P step [] = refl
any-lowered d P step (e ∷ es) =
    ap (λ b. b || list_any calculates (map (lowered d) (map (λ e. e.0) es))) (step e.0 e.1)
    ∙ ap (λ b. calculates e.0 || b) (any-lowered d P step es)

module _ (d : ℕ) where
  abbrev VariablesLower : Term → Type 0
  VariablesLower t = variables_of (lowered d t) ≡ map (λ k. k - d) (variables_of t)

  variables_at : (y : Term-F ((t : Term) × VariablesLower t))
      → VariablesLower (roll-Term (map-Term ((t : Term) × VariablesLower t) Term (λ e. e.0) y))
  unfolding roll-Term roll
  variables_at (Term-F.Num n) =
      ap variables_of (lowered-Num d n) ∙ variables_of-Num n
      ∙ ap (map (λ k. k - d)) (sym (variables_of-Num n))
  variables_at (Term-F.Var k) =
      ap variables_of (lowered-Var d k) ∙ variables_of-Var (k - d)
      ∙ ap (map (λ k. k - d)) (sym (variables_of-Var k))
  variables_at (Term-F.App head es) =
      let args : List Term = map (λ e. e.0) es in
      ap variables_of (lowered-App d head args) ∙ variables_of-App head (map (lowered d) args)
      ∙ flat_map-lowered d VariablesLower (λ t e. e) es
      ∙ ap (map (λ k. k - d)) (sym (variables_of-App head args))

  pub variables_of-lowered : (t : Term) → VariablesLower t
  variables_of-lowered =
      ind-Term VariablesLower
      (λ x y is. subst (λ z. VariablesLower (roll-Term z)) is (variables_at y))

  abbrev CalculatesLower : Term → Type 0
  CalculatesLower t = calculates (lowered d t) ≡ calculates t

  calculates_at : (y : Term-F ((t : Term) × CalculatesLower t))
      → CalculatesLower (roll-Term (map-Term ((t : Term) × CalculatesLower t) Term (λ e. e.0) y))
  unfolding roll-Term roll
  calculates_at (Term-F.Num n) = ap calculates (lowered-Num d n)
  calculates_at (Term-F.Var k) =
      ap calculates (lowered-Var d k) ∙ calculates-Var (k - d) ∙ sym (calculates-Var k)
  calculates_at (Term-F.App head es) =
      let args : List Term = map (λ e. e.0) es in
      ap calculates (lowered-App d head args) ∙ calculates-App head (map (lowered d) args)
      ∙ ap (λ b. is_sum_head head || b) (any-lowered d CalculatesLower (λ t e. e) es)
      ∙ sym (calculates-App head args)

  pub calculates-lowered : (t : Term) → CalculatesLower t
  calculates-lowered =
      ind-Term CalculatesLower
      (λ x y is. subst (λ z. CalculatesLower (roll-Term z)) is (calculates_at y))

pub mentions-lowered : (count d : ℕ) (t : Term)
    → list_any (λ k. nat_lt k count) (variables_of (lowered d t)) ≡ mentions count d t
unfolding mentions
mentions-lowered count d t =
    ap (list_any (λ k. nat_lt k count)) (variables_of-lowered d t)
    ∙ list_any-map (λ k. nat_lt k count) (λ k. k - d) (variables_of t)

-- ---- which terms are candidates

pub is_application-Num : (n : ℤ) → is_application (Num n) ≡ false
unfolding roll-Term roll
is_application-Num n = ap is_application_form (out-roll-Term (Term-F.Num n))

pub is_application-Var : (k : ℕ) → is_application (Var k) ≡ false
unfolding roll-Term roll
is_application-Var k = ap is_application_form (out-roll-Term (Term-F.Var k))

pub is_application-App : (head : Head) (args : List Term) → is_application (App head args) ≡ true
unfolding roll-Term roll
is_application-App head args = ap is_application_form (out-roll-Term (Term-F.App head args))

not_applied : (q : Quant) (t : Term) → is_application t ≡ false
    → filter (is_candidate q) (t ∷ []) ≡ []
not_applied q t e =
    ap (λ b. cond (b && list_any (λ k. nat_lt k q.count) (variables_of t) && not (calculates t)
    && not (has q.exempt t)) (t ∷ []) []) e

candidate-applied : (q : Quant) (d : ℕ) (head : Head) (args : List Term)
    → is_candidate q (lowered d (App head args))
    ≡ (mentions q.count d (App head args) && not (calculates (App head args))
    && not (has q.exempt (lowered d (App head args))))
candidate-applied q d head args =
    let t : Term = App head args in
    ap (λ b. b && list_any (λ k. nat_lt k q.count) (variables_of (lowered d t))
    && not (calculates (lowered d t)) && not (has q.exempt (lowered d t)))
    (ap is_application (lowered-App d head args) ∙ is_application-App head (map (lowered d) args))
    ∙ ap (λ b. b && not (calculates (lowered d t)) && not (has q.exempt (lowered d t)))
    (mentions-lowered q.count d t)
    ∙ ap (λ b. mentions q.count d t && not b && not (has q.exempt (lowered d t)))
    (calculates-lowered d t)

-- ---- the candidates of a list of subterms

abbrev taken_from : Quant → ℕ → List Term → List Term
taken_from q d ts = filter (is_candidate q) (map (lowered d) (filter (is_clear d) ts))

taken-append : (q : Quant) (d : ℕ) (xs ys : List Term)
    → taken_from q d (xs ++ ys) ≡ taken_from q d xs ++ taken_from q d ys
taken-append q d xs ys =
    ap (λ ts. filter (is_candidate q) (map (lowered d) ts)) (filter-append (is_clear d) xs ys)
    ∙ ap (filter (is_candidate q))
    (map-append (lowered d) (filter (is_clear d) xs) (filter (is_clear d) ys))
    ∙ filter-append (is_candidate q) (map (lowered d) (filter (is_clear d) xs))
    (map (lowered d) (filter (is_clear d) ys))

taken-flat_map : (q : Quant) (d : ℕ) (ts : List Term)
    → taken_from q d (flat_map subterms ts) ≡ flat_map (candidates_in q d) ts
unfolding candidates_in
taken-flat_map q d [] = refl
taken-flat_map q d (t ∷ ts) =
    taken-append q d (subterms t) (flat_map subterms ts)
    ∙ ap (λ us. candidates_in q d t ++ us) (taken-flat_map q d ts)

pub candidates_in-Num : (q : Quant) (d : ℕ) (n : ℤ) → candidates_in q d (Num n) ≡ []
unfolding candidates_in
candidates_in-Num q d n =
    ap (taken_from q d) (subterms-Num n)
    ∙ ap (λ b. filter (is_candidate q) (map (lowered d) (cond b (Num n ∷ []) [])))
    (is_clear-Num d n)
    ∙ ap (λ t. filter (is_candidate q) (t ∷ [])) (lowered-Num d n)
    ∙ not_applied q (Num n) (is_application-Num n)

taken-Var : (q : Quant) (d k : ℕ) (b : Bool)
    → filter (is_candidate q) (map (lowered d) (cond b (Var k ∷ []) [])) ≡ []
taken-Var q d k true =
    ap (λ t. filter (is_candidate q) (t ∷ [])) (lowered-Var d k)
    ∙ not_applied q (Var (k - d)) (is_application-Var (k - d))
taken-Var q d k false = refl

pub candidates_in-Var : (q : Quant) (d k : ℕ) → candidates_in q d (Var k) ≡ []
unfolding candidates_in
candidates_in-Var q d k =
    ap (taken_from q d) (subterms-Var k) ∙ taken-Var q d k (is_clear d (Var k))

candidates_in-App : (q : Quant) (d : ℕ) (head : Head) (args : List Term)
    → candidates_in q d (App head args)
    ≡ flat_map (candidates_in q d) args ++ taken_from q d (App head args ∷ [])
unfolding candidates_in
candidates_in-App q d head args =
    ap (taken_from q d) (subterms-App head args)
    ∙ taken-append q d (flat_map subterms args) (App head args ∷ [])
    ∙ ap (λ ts. ts ++ taken_from q d (App head args ∷ [])) (taken-flat_map q d args)

-- ---- on top of what was found

abbrev eligible : Quant → ℕ → Term → Bool
eligible q d t = is_clear d t && mentions q.count d t && not (calculates t)

with-unless_exempt : (q : Quant) (seen : List Term) (u : Term) (b : Bool) → has q.exempt u ≡ b
    → fold with_once seen (cond (not b) (u ∷ []) []) ≡ with_candidate q seen u
unfolding with_candidate
with-unless_exempt q seen u true e = ap (λ c. if c then seen else with_once seen u) (sym e)
with-unless_exempt q seen u false e = ap (λ c. if c then seen else with_once seen u) (sym e)

taken-eligible : (q : Quant) (d : ℕ) (seen : List Term) (head : Head)
    (args : List Term) (a b c : Bool)
    → is_clear d (App head args) ≡ a → mentions q.count d (App head args) ≡ b
    → calculates (App head args) ≡ c → (a && b && not c) ≡ true
    → fold with_once seen (taken_from q d (App head args ∷ []))
    ≡ with_candidate q seen (lowered d (App head args))
taken-eligible q d seen head args true true false clear mentioned plain e =
    let t : Term = App head args in
    let u : Term = lowered d t in
    ap (λ b. fold with_once seen (filter (is_candidate q)
    (map (lowered d) (cond b (t ∷ []) [])))) clear
    ∙ ap (λ b. fold with_once seen (cond b (u ∷ []) [])) (candidate-applied q d head args)
    ∙ ap (λ b. fold with_once seen
    (cond (b && not (calculates t) && not (has q.exempt u)) (u ∷ []) [])) mentioned
    ∙ ap (λ b. fold with_once seen (cond (not b && not (has q.exempt u)) (u ∷ []) [])) plain
    ∙ with-unless_exempt q seen u (has q.exempt u) refl
taken-eligible q d seen head args false b c clear mentioned plain e = cc
taken-eligible q d seen head args true false c clear mentioned plain e = cc
taken-eligible q d seen head args true true true clear mentioned plain e = cc

taken-passed : (q : Quant) (d : ℕ) (head : Head) (args : List Term) (a b c : Bool)
    → is_clear d (App head args) ≡ a → mentions q.count d (App head args) ≡ b
    → calculates (App head args) ≡ c → (a && b && not c) ≡ false
    → taken_from q d (App head args ∷ []) ≡ []
taken-passed q d head args false b c clear mentioned plain e =
    ap (λ b. filter (is_candidate q) (map (lowered d) (cond b (App head args ∷ []) []))) clear
taken-passed q d head args true false c clear mentioned plain e =
    let t : Term = App head args in
    let u : Term = lowered d t in
    ap (λ b. filter (is_candidate q) (map (lowered d) (cond b (t ∷ []) []))) clear
    ∙ ap (λ b. cond b (u ∷ []) []) (candidate-applied q d head args)
    ∙ ap (λ b. cond (b && not (calculates t) && not (has q.exempt u)) (u ∷ []) []) mentioned
taken-passed q d head args true true true clear mentioned plain e =
    let t : Term = App head args in
    let u : Term = lowered d t in
    ap (λ b. filter (is_candidate q) (map (lowered d) (cond b (t ∷ []) []))) clear
    ∙ ap (λ b. cond b (u ∷ []) []) (candidate-applied q d head args)
    ∙ ap (λ b. cond (b && not (calculates t) && not (has q.exempt u)) (u ∷ []) []) mentioned
    ∙ ap (λ b. cond (not b && not (has q.exempt u)) (u ∷ []) []) plain
taken-passed q d head args true true false clear mentioned plain e = cc

pub collected-Num : (q : Quant) (d : ℕ) (seen : List Term) (n : ℤ)
    → fold with_once seen (candidates_in q d (Num n)) ≡ seen
collected-Num q d seen n = ap (fold with_once seen) (candidates_in-Num q d n)

pub collected-Var : (q : Quant) (d : ℕ) (seen : List Term) (k : ℕ)
    → fold with_once seen (candidates_in q d (Var k)) ≡ seen
collected-Var q d seen k = ap (fold with_once seen) (candidates_in-Var q d k)

collected-App : (q : Quant) (d : ℕ) (seen : List Term) (head : Head) (args : List Term)
    → fold with_once seen (candidates_in q d (App head args))
    ≡ fold with_once (fold with_once seen (flat_map (candidates_in q d) args))
    (taken_from q d (App head args ∷ []))
collected-App q d seen head args =
    ap (fold with_once seen) (candidates_in-App q d head args)
    ∙ fold-append with_once seen (flat_map (candidates_in q d) args)
    (taken_from q d (App head args ∷ []))

-- an application that is taken, on top of what its arguments gave
pub collected-eligible : (q : Quant) (d : ℕ) (seen : List Term) (head : Head) (args : List Term)
    → eligible q d (App head args) ≡ true
    → fold with_once seen (candidates_in q d (App head args))
    ≡ with_candidate q (fold with_once seen (flat_map (candidates_in q d) args))
    (lowered d (App head args))
collected-eligible q d seen head args e =
    collected-App q d seen head args
    ∙ taken-eligible q d (fold with_once seen (flat_map (candidates_in q d) args)) head args _ _ _
    refl refl refl e

pub collected-passed : (q : Quant) (d : ℕ) (seen : List Term) (head : Head) (args : List Term)
    → eligible q d (App head args) ≡ false
    → fold with_once seen (candidates_in q d (App head args))
    ≡ fold with_once seen (flat_map (candidates_in q d) args)
collected-passed q d seen head args e =
    collected-App q d seen head args
    ∙ ap (fold with_once (fold with_once seen (flat_map (candidates_in q d) args)))
    (taken-passed q d head args _ _ _ refl refl refl e)

-- ---- an application, by what its arguments told

module _ (q : Quant) (d : ℕ) (seen found : List Term) (head : Head) (args : List Term)
    (clear mentioned plain : Bool)
    (is : clear ≡ list_all (is_clear d) args)
    (does : mentioned ≡ list_any (mentions q.count d) args)
    (adds : plain ≡ (is_sum_head head || list_any calculates args))
    (so_far : found ≡ fold with_once seen (flat_map (candidates_in q d) args)) where
  eligible_is : eligible q d (App head args) ≡ (clear && mentioned && not plain)
  eligible_is =
      ap (λ b. b && mentions q.count d (App head args) && not (calculates (App head args)))
      (is_clear-App d head args ∙ sym is)
      ∙ ap (λ b. clear && b && not (calculates (App head args)))
      (mentions-App q.count d head args ∙ sym does)
      ∙ ap (λ b. clear && mentioned && not b) (calculates-App head args ∙ sym adds)

  pub eligible_step : (after : List Term) → (clear && mentioned && not plain) ≡ true
      → after ≡ with_candidate q found (lowered d (App head args))
      → after ≡ fold with_once seen (candidates_in q d (App head args))
  eligible_step after e added =
      added ∙ ap (λ ts. with_candidate q ts (lowered d (App head args))) so_far
      ∙ sym (collected-eligible q d seen head args (eligible_is ∙ e))

  pub passed_step : (clear && mentioned && not plain) ≡ false
      → found ≡ fold with_once seen (candidates_in q d (App head args))
  passed_step e = so_far ∙ sym (collected-passed q d seen head args (eligible_is ∙ e))

pub ruleset walk_levels = (
  is_clear-Num,
  is_clear-Var,
  is_clear-App,
  mentions-Num,
  mentions-Var,
  mentions-App,
  calculates-Num,
  calculates-Var,
  calculates-App,
  collected-Num,
  collected-Var,
)
