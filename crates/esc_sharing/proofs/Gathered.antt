-- The nodes that become arithmetic are gathered while a term's nodes are made.
use Rattle.std.proofs.Common.{◌≡◌, ℕ, ℤ, suc, ◌+◌, ◌<◌, Bool, true, false, List, [], ◌∷◌}
use Rattle.std.proofs.Common.{◌++◌, length, get_or, map, take, refl, ap, ap₂, sym, subst, ◌∙◌, arith}
use Rattle.std.proofs.Common.{append_assoc, if◌then◌else◌}
use Rattle.std.specs.List.{All, flat_map, fold}
use Rattle.std.proofs.lemmas.Grind.{flat_map-append}
use Rattle.std.proofs.lemmas.List.{append-nil, map-append, take_more}
use Rattle.std.proofs.lemmas.List.Elements.{All-append, All-push}
use Rattle.esc_term.specs.declared.term.Head.{Head}
use Rattle.esc_term.specs.declared.term.Head.TheVariants.{Name, Skolem, Add, Sub, Mul}
use Rattle.esc_term.specs.declared.term.Term.{Term}
use Rattle.esc_term.specs.declared.term.Term.TheVariants as term
use Rattle.esc_term.specs.declared.term.Term.TheVariants.{rolls-App, rolls-Num}
use Rattle.esc_term.specs.declared.term.Term.TheOpen.{Term-F}
use Rattle.esc_term.specs.declared.term.Term.TheViews.{out-Term, out-roll-Term}
use Rattle.esc_term.specs.Term.{subterms, with_once}
use Rattle.esc_term.proofs.TermLevels.{subterms-App, subterms-Num}
use Rattle.esc_cover.specs.Arithmetic.{is_number_form, operands_form}
use Rattle.esc_nodes.specs.Nodes.{Shape}
use Rattle.esc_nodes.specs.Terms.{term_of}
use Rattle.esc_egraph.specs.Graph.{Graph}
use Rattle.esc_node_terms.specs.Nodes.{AreNodesOf}
use Rattle.esc_node_terms.proofs.Walking.{brought-App}
use Rattle.esc_sharing.specs.AddingInside.{Gathers, IsGrown, is_sum, named, named_nodes}
use Rattle.esc_sharing.specs.Calls.{IsNodeOf}
use Rattle.esc_sharing.specs.Nodes.{node_term, terms_in}
use Rattle.esc_sharing.proofs.Growing.{longer, term_stays}

-- ---- what a term names

named_by : Term-F Term → Term → List Term
named_by form t = operands_form form ++ (if is_number_form form then t ∷ [] else [])

named-Num : (n : ℤ) → named (term.Num n) ≡ term.Num n ∷ []
unfolding out-Term named_by
named-Num n = ap (λ form. named_by form (term.Num n))
    (ap out-Term (sym (rolls-Num n)) ∙ out-roll-Term (Term-F.Num n))

head_named : (head : Head) (ts : List Term) (t : Term) → named_by (Term-F.App head ts) t
    ≡ (if is_sum head then ts ++ t ∷ [] else [])
unfolding named_by
head_named (Name n) ts t = refl
head_named (Skolem n i) ts t = refl
head_named Add ts t = refl
head_named Sub ts t = refl
head_named Mul ts t = refl

named-App : (head : Head) (ts : List Term) → named (term.App head ts)
    ≡ (if is_sum head then ts ++ term.App head ts ∷ [] else [])
unfolding out-Term named_by
named-App head ts =
    ap (λ form. named_by form (term.App head ts))
    (ap out-Term (sym (rolls-App head ts)) ∙ out-roll-Term (Term-F.App head ts))
    ∙ head_named head ts (term.App head ts)

-- ---- nodes of terms

module _ (shapes : List Shape) where
  pub nodes_none : AreNodesOf shapes [] []
  nodes_none = record { there = λ k d l. absurd (omega (arith, l)); terms = refl }

  pub nodes_both : (ns ms : List ℕ) (ts us : List Term) → AreNodesOf shapes ns ts
      → AreNodesOf shapes ms us → AreNodesOf shapes (ns ++ ms) (ts ++ us)
  nodes_both ns ms ts us a b = record {
    there = All-append (λ n. n < length shapes) ns ms a.there b.there;
    terms = map-append (term_of shapes) ns ms ∙ ap₂ (λ xs ys. xs ++ ys) a.terms b.terms;
  }

  pub nodes_one : (n : ℕ) (t : Term) → n < length shapes → term_of shapes n ≡ t
      → AreNodesOf shapes (n ∷ []) (t ∷ [])
  nodes_one n t there is = record {
    there = All-push (λ m. m < length shapes) [] n (λ k d l. absurd (omega (arith, l))) there;
    terms = ap (λ u. u ∷ []) is;
  }

  pub gathers_nothing : (numbers : List ℕ) → Gathers shapes numbers numbers []
  gathers_nothing numbers =
      record { more = []; gathered = sym (append-nil numbers); are = nodes_none }

  pub gathers_both : (first middle last : List ℕ) (ts us : List Term)
      → Gathers shapes first middle ts → Gathers shapes middle last us
      → Gathers shapes first last (ts ++ us)
  gathers_both first middle last ts us a b = record {
    more = a.more ++ b.more;
    gathered = b.gathered ∙ (ap (λ list. list ++ b.more) a.gathered
        ∙ append_assoc first a.more b.more);
    are = nodes_both a.more b.more ts us a.are b.are;
  }

  pub sum_named : (head : Head) (ns : List ℕ) (n : ℕ) (ts : List Term) → AreNodesOf shapes ns ts
      → n < length shapes → term_of shapes n ≡ term.App head ts
      → AreNodesOf shapes (named_nodes head ns n) (named (term.App head ts))
  sum_named head ns n ts are there is =
      subst (AreNodesOf shapes (named_nodes head ns n)) (sym (named-App head ts))
      (go (is_sum head))
    where
      go : (b : Bool) → AreNodesOf shapes (if b then ns ++ n ∷ [] else [])
          (if b then ts ++ term.App head ts ∷ [] else [])
      go true = nodes_both ns (n ∷ []) ts (term.App head ts ∷ []) are
          (nodes_one n (term.App head ts) there is)
      go false = nodes_none

-- ---- nodes stay

module _ (old new : Graph) (grown : IsGrown old new) where
  pub terms_kept : (ns : List ℕ) → All (λ n. n < length old.nodes) ns
      → map (term_of new.nodes) ns ≡ map (term_of old.nodes) ns
  terms_kept [] there = refl
  terms_kept (n ∷ ns) there =
      ap₂ (λ t ts. t ∷ ts)
      (term_stays old new grown.nodes.0 grown.nodes.1 n (there 0 0 (omega arith)))
      (terms_kept ns (λ k d l. there (suc k) d (omega (arith, l))))

  pub nodes_later : (ns : List ℕ) (ts : List Term) → AreNodesOf old.nodes ns ts
      → AreNodesOf new.nodes ns ts
  nodes_later ns ts are = record {
    there = λ k d l. longer old new grown.nodes.0 grown.nodes.1 (get_or ns k d) (are.there k d l);
    terms = terms_kept ns are.there ∙ are.terms;
  }

  pub gathers_later : (before after : List ℕ) (ts : List Term) → Gathers old.nodes before after ts
      → Gathers new.nodes before after ts
  gathers_later before after ts is = record {
    more = is.more;
    gathered = is.gathered;
    are = nodes_later is.more ts is.are;
  }

  -- ---- an application

  pub gathers-App : (first middle last ns : List ℕ) (head : Head) (ts : List Term) (n : ℕ)
      → AreNodesOf old.nodes ns ts → IsNodeOf new (term.App head ts) n
      → Gathers old.nodes first middle (flat_map named (flat_map subterms ts))
      → last ≡ middle ++ named_nodes head ns n
      → Gathers new.nodes first last (flat_map named (subterms (term.App head ts)))
  gathers-App first middle last ns head ts n are node before after =
      subst (Gathers new.nodes first last)
      (sym (ap (flat_map named) (subterms-App head ts)
      ∙ (flat_map-append named (flat_map subterms ts) (term.App head ts ∷ [])
      ∙ ap (λ us. flat_map named (flat_map subterms ts) ++ us)
      (append-nil (named (term.App head ts))))))
      (gathers_both new.nodes first middle last (flat_map named (flat_map subterms ts))
      (named (term.App head ts)) (gathers_later first middle _ before) (record {
        more = named_nodes head ns n;
        gathered = after;
        are = sum_named new.nodes head ns n ts (nodes_later ns ts are) node.there node.is;
      }))

-- ---- a numeral

pub gathers-Num : (shapes : List Shape) (first last : List ℕ) (n : ℕ) (x : ℤ) (t : Term)
    → t ≡ term.Num x → n < length shapes → term_of shapes n ≡ t → last ≡ first ++ n ∷ []
    → Gathers shapes first last (flat_map named (subterms t))
gathers-Num shapes first last n x t num there is after = record {
  more = n ∷ [];
  gathered = after;
  are = subst (AreNodesOf shapes (n ∷ []))
      (sym (ap (λ u. flat_map named (subterms u)) num ∙ (ap (flat_map named) (subterms-Num x)
      ∙ (append-nil (named (term.Num x)) ∙ named-Num x))))
      (nodes_one shapes n (term.Num x) there (is ∙ num));
}

-- ---- terms in order

pub gathers_more : (old new : Graph) → IsGrown old new → (first middle last : List ℕ)
    (ts : List Term) (i : ℕ) (t : Term) → i < length ts → t ≡ get_or ts i t
    → Gathers old.nodes first middle (flat_map named (flat_map subterms (take i ts)))
    → Gathers new.nodes middle last (flat_map named (subterms t))
    → Gathers new.nodes first last (flat_map named (flat_map subterms (take (i + 1) ts)))
gathers_more old new grown first middle last ts i t within at before after =
    subst (Gathers new.nodes first last)
    (sym (ap (λ us. flat_map named (flat_map subterms us))
    (take_more ts i t within ∙ ap (λ u. take i ts ++ u ∷ []) (sym at))
    ∙ (ap (flat_map named) (flat_map-append subterms (take i ts) (t ∷ [])
    ∙ ap (λ us. flat_map subterms (take i ts) ++ us) (append-nil (subterms t)))
    ∙ flat_map-append named (flat_map subterms (take i ts)) (subterms t))))
    (gathers_both new.nodes first middle last (flat_map named (flat_map subterms (take i ts)))
    (flat_map named (subterms t))
    (gathers_later old new grown first middle (flat_map named (flat_map subterms (take i ts)))
    before) after)

pub nodes_more : (old new : Graph) → IsGrown old new → (ns pushed : List ℕ) (ts : List Term)
    (i n : ℕ) (t : Term) → i < length ts → t ≡ get_or ts i t → pushed ≡ ns ++ n ∷ []
    → AreNodesOf old.nodes ns (take i ts) → IsNodeOf new t n
    → AreNodesOf new.nodes pushed (take (i + 1) ts)
nodes_more old new grown ns pushed ts i n t within at push are node =
    subst (λ list. AreNodesOf new.nodes list (take (i + 1) ts)) (sym push)
    (subst (AreNodesOf new.nodes (ns ++ n ∷ []))
    (sym (take_more ts i t within ∙ ap (λ u. take i ts ++ u ∷ []) (sym at)))
    (nodes_both new.nodes ns (n ∷ []) (take i ts) (t ∷ [])
    (nodes_later old new grown ns (take i ts) are) (nodes_one new.nodes n t node.there node.is)))

-- ---- an application of whose arguments the nodes are made

module _ (old mid new : Graph) (head : Head) (ns args : List ℕ) (ts us : List Term) (t : Term)
    (n : ℕ) (same : args ≡ ns) (are : AreNodesOf mid.nodes ns us) (slice : us ≡ ts)
    (is : t ≡ term.App head ts) where
  built_is : term.App head (map (node_term mid) args) ≡ t
  built_is = ap (λ xs. term.App head (map (node_term mid) xs)) same
      ∙ (ap (term.App head) (are.terms ∙ slice) ∙ sym is)

  pub node_made : IsNodeOf new (term.App head (map (node_term mid) args)) n → IsNodeOf new t n
  node_made node = subst (λ u. IsNodeOf new u n) built_is node

  pub terms_made : terms_in mid ≡ fold with_once (terms_in old) (flat_map subterms us)
      → terms_in new ≡ with_once (terms_in mid) (term.App head (map (node_term mid) args))
      → terms_in new ≡ fold with_once (terms_in old) (subterms t)
  terms_made before after =
      after ∙ (ap₂ with_once (before
      ∙ ap (λ list. fold with_once (terms_in old) (flat_map subterms list)) slice)
      (built_is ∙ is) ∙ (sym (brought-App (terms_in old) head ts)
      ∙ ap (λ u. fold with_once (terms_in old) (subterms u)) (sym is)))

  pub gathers_made : (first middle last : List ℕ) → IsGrown mid new
      → IsNodeOf new (term.App head (map (node_term mid) args)) n
      → Gathers mid.nodes first middle (flat_map named (flat_map subterms us))
      → last ≡ middle ++ named_nodes head args n
      → Gathers new.nodes first last (flat_map named (subterms t))
  gathers_made first middle last grown node before after =
      subst (λ u. Gathers new.nodes first last (flat_map named (subterms u)))
      (ap (term.App head) slice ∙ sym is)
      (gathers-App mid new grown first middle last ns head us n are
      (subst (λ u. IsNodeOf new u n) (sym (ap (term.App head) slice ∙ sym is)) (node_made node))
      before (after ∙ ap (λ xs. middle ++ named_nodes head xs n) same))
