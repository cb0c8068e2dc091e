-- What a match has inside, by the form of the pattern.
use Rattle.std.proofs.Common.{◌≡◌, ℕ, ℤ, ◌<◌, List, [], ◌∷◌, ◌++◌, length, refl, ap, sym, subst}
use Rattle.std.proofs.Common.{◌∙◌}
use Rattle.esc_term.specs.declared.term.Head.{Head}
use Rattle.esc_term.specs.declared.term.Term.{Term}
use Rattle.esc_term.specs.declared.term.Term.TheVariants.{Num, Var, App}
use Rattle.esc_term.specs.declared.term.Term.TheOpen.{Term-F}
use Rattle.esc_term.specs.declared.term.Term.TheViews.{out-Term, roll-Term, out-roll-Term}
use Rattle.esc_term.proofs.Parts.{apart_Num, apart_Var, args_of_same, head_of_same}
use denote.Hole.Carrier.{roll}
use Rattle.esc_nodes.specs.Nodes.{shape_at}
use Rattle.esc_nodes.specs.declared.top.Top.TheVariants as top
use Rattle.esc_union.specs.Merges.{SameClass}
use Rattle.esc_egraph.specs.Graph.{Graph, number_of}
use Rattle.esc_match.specs.Match.{Match, MatchAll}
use Rattle.esc_match.specs.Match as fits

-- ---- equal terms

opened : (x y : Term-F Term) → roll-Term x ≡ roll-Term y → x ≡ y
opened x y e = sym (out-roll-Term x) ∙ ap out-Term e ∙ out-roll-Term y

pub same_Num : (v u : ℤ) → Num v ≡ Num u → v ≡ u
unfolding roll-Term roll
same_Num v u e = cc (opened (Term-F.Num v) (Term-F.Num u) e)

same_Var : (j k : ℕ) → Var j ≡ Var k → j ≡ k
unfolding roll-Term roll
same_Var j k e = cc (opened (Term-F.Var j) (Term-F.Var k) e)

apart_forms : (v : ℤ) (k : ℕ) → Num v ≡ Var k → ⊥
apart_forms v k e = cc

-- ---- one pattern

-- a numeral of this value stands in the class
pub record HasNumeral (g : Graph) (v : ℤ) (n : ℕ) : Type 0 where
  pub node : ℕ
  pub there : node < length g.nodes
  pub topped : (shape_at g.nodes node).top ≡ top.Num v
  pub same : SameClass (number_of g) node n

-- an application in the class, whose arguments match
pub record HasApplication (g : Graph) (class : ℕ → ℕ) (head : Head) (ps : List Term) (n : ℕ)
    (matched : List ℕ) : Type 0 where
  pub node : ℕ
  pub inside : List ℕ
  pub there : node < length g.nodes
  pub topped : (shape_at g.nodes node).top ≡ top.App head
  pub same : SameClass (number_of g) node n
  pub args : MatchAll g class ps (shape_at g.nodes node).args inside
  pub whole : matched ≡ node ∷ inside

module _ (g : Graph) (class : ℕ → ℕ) where
  of_Num : (p : Term) (n : ℕ) (matched : List ℕ) → Match g class p n matched → (v : ℤ) → p ≡ Num v
      → HasNumeral g v n × (matched ≡ n ∷ [])
  of_Num p n matched (fits.variable _ _ _ k is c m) v e =
      absurd (apart_forms v k (sym e ∙ is))
  of_Num p n matched (fits.numeral _ _ _ u node is there topped same m) v e = (
    record {
      node = node;
      there = there;
      topped = topped ∙ ap top.Num (same_Num u v (sym is ∙ e));
      same = same;
    },
    m,
  )
  of_Num p n matched (fits.application _ _ _ head ps node inside is there topped same args m) v e =
      absurd (apart_Num v head ps (sym e ∙ is))

  pub match-Num : (v : ℤ) (n : ℕ) (matched : List ℕ) → Match g class (Num v) n matched
      → HasNumeral g v n × (matched ≡ n ∷ [])
  match-Num v n matched m = of_Num (Num v) n matched m v refl

  of_Var : (p : Term) (n : ℕ) (matched : List ℕ) → Match g class p n matched → (k : ℕ) → p ≡ Var k
      → (number_of g n ≡ class k) × (matched ≡ n ∷ [])
  of_Var p n matched (fits.variable _ _ _ j is c m) k e =
      (c ∙ ap class (same_Var j k (sym is ∙ e)), m)
  of_Var p n matched (fits.numeral _ _ _ u node is there topped same m) k e =
      absurd (apart_forms u k (sym is ∙ e))
  of_Var p n matched (fits.application _ _ _ head ps node inside is there topped same args m) k e =
      absurd (apart_Var k head ps (sym e ∙ is))

  pub match-Var : (k n : ℕ) (matched : List ℕ) → Match g class (Var k) n matched
      → (number_of g n ≡ class k) × (matched ≡ n ∷ [])
  match-Var k n matched m = of_Var (Var k) n matched m k refl

  of_App : (p : Term) (n : ℕ) (matched : List ℕ) → Match g class p n matched → (head : Head)
      (ps : List Term) → p ≡ App head ps → HasApplication g class head ps n matched
  of_App p n matched (fits.variable _ _ _ k is c m) head ps e =
      absurd (apart_Var k head ps (sym is ∙ e))
  of_App p n matched (fits.numeral _ _ _ u node is there topped same m) head ps e =
      absurd (apart_Num u head ps (sym is ∙ e))
  of_App p n matched (fits.application _ _ _ f qs node inside is there topped same args m) head ps
      e = record {
        node = node;
        inside = inside;
        there = there;
        topped = topped ∙ ap top.App (head_of_same f head qs ps (sym is ∙ e));
        same = same;
        args = subst (λ us. MatchAll g class us (shape_at g.nodes node).args inside)
            (args_of_same f head qs ps (sym is ∙ e)) args;
        whole = m;
      }

  pub match-App : (head : Head) (ps : List Term) (n : ℕ) (matched : List ℕ)
      → Match g class (App head ps) n matched → HasApplication g class head ps n matched
  match-App head ps n matched m = of_App (App head ps) n matched m head ps refl

-- ---- patterns with nodes

-- the first pattern with the first node, and the others
pub record FirstFits (g : Graph) (class : ℕ → ℕ) (p : Term) (ps : List Term) (ns matched : List ℕ) :
    Type 0 where
  pub node : ℕ
  pub nodes : List ℕ
  pub first : List ℕ
  pub rest : List ℕ
  pub is : ns ≡ node ∷ nodes
  pub match : Match g class p node first
  pub others : MatchAll g class ps nodes rest
  pub whole : matched ≡ first ++ rest

module _ (g : Graph) (class : ℕ → ℕ) where
  of_none : (ps : List Term) (ns matched : List ℕ) → MatchAll g class ps ns matched → ps ≡ []
      → (ns ≡ []) × (matched ≡ [])
  of_none ps ns matched (fits.none _ _ _ is at m) e = (at, m)
  of_none ps ns matched (fits.more _ _ _ q qs node nodes first rest is at one others m) e =
      absurd (cc (sym e ∙ is))

  pub match-none : (ns matched : List ℕ) → MatchAll g class [] ns matched
      → (ns ≡ []) × (matched ≡ [])
  match-none ns matched m = of_none [] ns matched m refl

  of_cons : (us : List Term) (ns matched : List ℕ) → MatchAll g class us ns matched → (p : Term)
      (ps : List Term) → us ≡ p ∷ ps → FirstFits g class p ps ns matched
  of_cons us ns matched (fits.none _ _ _ is at m) p ps e = absurd (cc (sym is ∙ e))
  of_cons us ns matched (fits.more _ _ _ q qs node nodes first rest is at one others m) p ps e =
      let same : q ∷ qs ≡ p ∷ ps = sym is ∙ e in
      record {
        node = node;
        nodes = nodes;
        first = first;
        rest = rest;
        is = at;
        match = subst (λ t. Match g class t node first) (cc same) one;
        others = subst (λ ts. MatchAll g class ts nodes rest) (cc same) others;
        whole = m;
      }

  pub match-cons : (p : Term) (ps : List Term) (ns matched : List ℕ)
      → MatchAll g class (p ∷ ps) ns matched → FirstFits g class p ps ns matched
  match-cons p ps ns matched m = of_cons (p ∷ ps) ns matched m p ps refl
