-- What lightened clauses come to, and what is read off what clauses come to.
use Rattle.std.proofs.Common.{◌≡◌, inl, inr, ℕ, zero, suc, Bool, true, false, not, ◌||◌, ◌&&◌, cond}
use Rattle.std.proofs.Common.{if◌then◌else◌, List, [], ◌∷◌, ◌++◌, map, take, drop}
use Rattle.std.proofs.Common.{refl, ap, sym, subst, ◌∙◌}
use Rattle.std.specs.List.{AllZip, Contains, filter}
use Rattle.esc_term.proofs.Members.{Contains-cases, Contains-here, Contains-later, Contains-none}
use Rattle.esc_clause.specs.ClauseContext.{Clause, ClauseContext, items_left}
use Rattle.esc_clause.specs.PassesInside.{waiting_of}
use Rattle.esc_clause.specs.Refinement.{is_failed, is_no, is_satisfied, is_yes}
use Rattle.esc_clause.specs.Refinement.{judged_by, left_of, lightened, lightened_among, lighter}
use Rattle.esc_clause.specs.Refinement.{refined, refined_among, thinned}
use Rattle.esc_clause.specs.Refinement.{thinned_member}
use Rattle.esc_clause.specs.declared.member.Member.{Member}
use Rattle.esc_clause.specs.declared.occurrence.Occurrence.{Occurrence}
use Rattle.esc_clause.specs.declared.truth.Truth.{Truth}
use Rattle.esc_clause.specs.declared.truth.Truth.TheVariants.{Yes, No, Open}

-- ---- filters

pub filter-filter : {X : Type 0} (p q : X → Bool) (xs : List X)
    → filter q (filter p xs) ≡ filter (λ x. p x && q x) xs
filter-filter p q [] = refl
filter-filter p q (x ∷ xs) = go (p x) (filter-filter p q xs)
  where
    go : (b : Bool) → filter q (filter p xs) ≡ filter (λ y. p y && q y) xs
        → filter q (cond b (x ∷ filter p xs) (filter p xs))
        ≡ cond (b && q x) (x ∷ filter (λ y. p y && q y) xs) (filter (λ y. p y && q y) xs)
    go true rest = ap (λ ys. cond (q x) (x ∷ ys) ys) rest
    go false rest = rest

pub filter-true : {X : Type 0} (xs : List X) → filter (λ (x : X). true) xs ≡ xs
filter-true [] = refl
filter-true (x ∷ xs) = ap (λ ys. x ∷ ys) (filter-true xs)

-- ---- one clause

module _ (truth : Occurrence → Truth) where
  pub items_left-thinned : (c : Clause)
      → items_left (thinned truth c) ≡ left_of truth (items_left c)
  items_left-thinned [] = refl
  items_left-thinned (m ∷ c) = go m.gone (is_no (truth m.item)) refl (items_left-thinned c)
    where
      go : (gone fails : Bool) → is_no (truth m.item) ≡ fails
          → items_left (thinned truth c) ≡ left_of truth (items_left c)
          → map (λ (n : Member). n.item) (cond (not (gone || fails))
          (thinned_member truth m ∷ filter (λ n. not n.gone) (thinned truth c))
          (filter (λ n. not n.gone) (thinned truth c)))
          ≡ left_of truth (map (λ (n : Member). n.item) (cond (not gone)
          (m ∷ filter (λ n. not n.gone) c) (filter (λ n. not n.gone) c)))
      go true fails e rest = rest
      go false true e rest =
          rest ∙ sym (ap (λ b. cond (not b) (m.item ∷ left_of truth (items_left c))
          (left_of truth (items_left c))) e)
      go false false e rest =
          ap (λ xs. m.item ∷ xs) rest
          ∙ sym (ap (λ b. cond (not b) (m.item ∷ left_of truth (items_left c))
          (left_of truth (items_left c))) e)

  -- of the clause some items that fail went
  pub record Lightens (c d : Clause) : Type 0 where
    pub test : Occurrence → Bool
    pub left : items_left d ≡ filter test (items_left c)
    pub keeps : (item : Occurrence) → is_no (truth item) ≡ false → test item ≡ true

  pub Lightens-same : (c : Clause) → Lightens c c
  Lightens-same c = record {
    test = λ item. true;
    left = sym (filter-true (items_left c));
    keeps = λ item e. refl;
  }

  pub Lightens-lightened : (c : Clause) → Lightens c (lightened truth c)
  Lightens-lightened c = go (is_satisfied truth (items_left c))
    where
      go : (b : Bool) → Lightens c (if b then c else thinned truth c)
      go true = Lightens-same c
      go false = record {
        test = λ item. not (is_no (truth item));
        left = items_left-thinned c;
        keeps = λ item e. ap not e;
      }

  -- ---- all clauses

  abbrev pub AreLighter : List Clause → List Clause → Type 0
  AreLighter = AllZip Lightens

  pub lighter-same : (cs : List Clause) → AreLighter cs cs
  lighter-same [] = tt
  lighter-same (c ∷ cs) = (Lightens-same c, lighter-same cs)

  pub lighter-among : (cs : List Clause) → AreLighter cs (lightened_among truth cs)
  lighter-among [] = tt
  lighter-among (c ∷ cs) = (Lightens-lightened c, go (is_failed truth c) (lighter-among cs))
    where
      go : (b : Bool) → AreLighter cs (lightened_among truth cs)
          → AreLighter cs (if b then cs else lightened_among truth cs)
      go true rest = lighter-same cs
      go false rest = rest

  pub lighter-front : (n : ℕ) (cs : List Clause)
      → AreLighter cs (map (lightened truth) (take n cs) ++ drop n cs)
  lighter-front zero cs = lighter-same cs
  lighter-front (suc n) [] = tt
  lighter-front (suc n) (c ∷ cs) = (Lightens-lightened c, lighter-front n cs)

  -- ---- clauses before and after

  -- an older clause of which the clause is what is left
  pub record HasOlder (cs : List Clause) (items : List Occurrence) : Type 0 where
    pub clause : Clause
    pub among : Contains cs clause
    pub test : Occurrence → Bool
    pub left : items ≡ filter test (items_left clause)
    pub keeps : (item : Occurrence) → is_no (truth item) ≡ false → test item ≡ true

  older-later : (c : Clause) (cs : List Clause) (items : List Occurrence) → HasOlder cs items
      → HasOlder (c ∷ cs) items
  older-later c cs items h = record {
    clause = h.clause;
    among = Contains-later c cs h.clause h.among;
    test = h.test;
    left = h.left;
    keeps = h.keeps;
  }

  pub older_of : (cs ds : List Clause) → AreLighter cs ds → (items : List Occurrence)
      → Contains (map items_left ds) items → HasOlder cs items
  older_of [] [] so items h = absurd (Contains-none items h)
  older_of [] (d ∷ ds) so items h = absurd so
  older_of (c ∷ cs) [] so items h = absurd so
  older_of (c ∷ cs) (d ∷ ds) so items h =
      elim (Contains-cases (items_left d) (map items_left ds) items h) [
        | inl same ↦ record {
          clause = c;
          among = Contains-here c cs;
          test = so.0.test;
          left = sym same ∙ so.0.left;
          keeps = so.0.keeps;
        }
        | inr later ↦ older-later c cs items (older_of cs ds so.1 items later)
      ]

  -- what is left of an older clause stands among the newer ones
  pub record HasNewer (ds : List Clause) (items : List Occurrence) : Type 0 where
    pub test : Occurrence → Bool
    pub left : Contains (map items_left ds) (filter test items)

  pub newer_of : (cs ds : List Clause) → AreLighter cs ds → (items : List Occurrence)
      → Contains (map items_left cs) items → HasNewer ds items
  newer_of [] [] so items h = absurd (Contains-none items h)
  newer_of [] (d ∷ ds) so items h = absurd so
  newer_of (c ∷ cs) [] so items h = absurd so
  newer_of (c ∷ cs) (d ∷ ds) so items h =
      elim (Contains-cases (items_left c) (map items_left cs) items h) [
        | inl same ↦ record {
          test = so.0.test;
          left = subst (Contains (map items_left (d ∷ ds)))
              (so.0.left ∙ ap (filter so.0.test) same)
              (Contains-here (items_left d) (map items_left ds));
        }
        | inr later ↦ let more = newer_of cs ds so.1 items later in
            record {
              test = more.test;
              left = Contains-later (items_left d) (map items_left ds) (filter more.test items)
                  more.left;
            }
      ]

-- ---- lightened clauses wait for the same

-- what holds does not fail
held_stays : (t : Truth) → is_yes t ≡ true → is_no t ≡ false
held_stays Yes e = refl
held_stays No e = cc
held_stays Open e = cc

module _ (truth : Occurrence → Truth) where
  left_of-left_of : (items : List Occurrence)
      → left_of truth (left_of truth items) ≡ left_of truth items
  left_of-left_of [] = refl
  left_of-left_of (i ∷ items) = go (is_no (truth i)) refl (left_of-left_of items)
    where
      go : (b : Bool) → is_no (truth i) ≡ b
          → left_of truth (left_of truth items) ≡ left_of truth items
          → left_of truth (cond (not b) (i ∷ left_of truth items) (left_of truth items))
          ≡ cond (not b) (i ∷ left_of truth items) (left_of truth items)
      go true e rest = rest
      go false e rest =
          ap (λ b. cond (not b) (i ∷ left_of truth (left_of truth items))
          (left_of truth (left_of truth items))) e
          ∙ ap (λ xs. i ∷ xs) rest

  -- without the items that fail as many hold
  satisfied-left_of : (items : List Occurrence)
      → is_satisfied truth (left_of truth items) ≡ is_satisfied truth items
  satisfied-left_of [] = refl
  satisfied-left_of (i ∷ items) =
      go (is_no (truth i)) (is_yes (truth i)) refl (held_stays (truth i)) (satisfied-left_of items)
    where
      go : (fails holds : Bool) → is_yes (truth i) ≡ holds → (holds ≡ true → fails ≡ false)
          → is_satisfied truth (left_of truth items) ≡ is_satisfied truth items
          → is_satisfied truth (cond (not fails) (i ∷ left_of truth items) (left_of truth items))
          ≡ (holds || is_satisfied truth items)
      go true true e stays rest = let never = stays refl in cc
      go true false e stays rest = rest
      go false holds e stays rest =
          ap (λ b. b || is_satisfied truth (left_of truth items)) e
          ∙ ap (λ b. holds || b) rest

  abbrev waits_in : List Occurrence → List (List Occurrence) → List (List Occurrence)
  waits_in items rest = cond (not (is_satisfied truth items)) (left_of truth items ∷ rest) rest

  waiting-cons : (c : Clause) (cs : List Clause)
      → waiting_of truth (c ∷ cs) ≡ waits_in (items_left c) (waiting_of truth cs)
  waiting-cons c cs = go (is_satisfied truth (items_left c))
    where
      go : (b : Bool) → map (λ (d : Clause). left_of truth (items_left d)) (cond (not b)
          (c ∷ filter (λ d. not (is_satisfied truth (items_left d))) cs)
          (filter (λ d. not (is_satisfied truth (items_left d))) cs))
          ≡ cond (not b) (left_of truth (items_left c) ∷ waiting_of truth cs)
          (waiting_of truth cs)
      go true = refl
      go false = refl

  waits_in-left_of : (items : List Occurrence) (rest : List (List Occurrence))
      → waits_in (left_of truth items) rest ≡ waits_in items rest
  waits_in-left_of items rest =
      ap (λ b. cond (not b) (left_of truth (left_of truth items) ∷ rest) rest)
      (satisfied-left_of items)
      ∙ ap (λ xs. cond (not (is_satisfied truth items)) (xs ∷ rest) rest) (left_of-left_of items)

  waits_in-lightened : (c : Clause) (rest : List (List Occurrence))
      → waits_in (items_left (lightened truth c)) rest ≡ waits_in (items_left c) rest
  waits_in-lightened c rest = go (is_satisfied truth (items_left c))
    where
      go : (b : Bool) → waits_in (items_left (if b then c else thinned truth c)) rest
          ≡ waits_in (items_left c) rest
      go true = refl
      go false =
          ap (λ xs. waits_in xs rest) (items_left-thinned truth c)
          ∙ waits_in-left_of (items_left c) rest

  waiting-lightened : (cs : List Clause)
      → waiting_of truth (lightened_among truth cs) ≡ waiting_of truth cs
  waiting-lightened [] = refl
  waiting-lightened (c ∷ cs) =
      waiting-cons (lightened truth c)
      (if is_failed truth c then cs else lightened_among truth cs)
      ∙ waits_in-lightened c
      (waiting_of truth (if is_failed truth c then cs else lightened_among truth cs))
      ∙ ap (λ rest. waits_in (items_left c) rest) (go (is_failed truth c) (waiting-lightened cs))
      ∙ sym (waiting-cons c cs)
    where
      go : (b : Bool) → waiting_of truth (lightened_among truth cs) ≡ waiting_of truth cs
          → waiting_of truth (if b then cs else lightened_among truth cs) ≡ waiting_of truth cs
      go true rest = refl
      go false rest = rest

-- what all clauses come to stays as it is
pub refined-lighter : (judge : Occurrence → Truth) (v : ClauseContext)
    → refined judge (lighter judge v) ≡ refined judge v
refined-lighter judge v =
    ap refined_among (waiting-lightened (judged_by judge v.decisions) v.clauses)
