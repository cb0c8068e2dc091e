-- The numbers by which nodes are looked up.
use Rattle.std.proofs.Common.{◌≡◌, ℕ, pos, ◌<◌, ◌≤◌, ◌-◌, ◌%◌, List, [], ◌∷◌, ◌++◌, length, get_or, take, drop, map, refl, ap, sym, ◌∙◌, arith}
use Rattle.std.specs.List.{fold}
use Rattle.std.proofs.lemmas.List.{get_or-map, get_or_past, get_or-take, length-map, length-take, map-append, take-append-drop}
use Rattle.std.proofs.lemmas.Grind.{same_number_lists}
use Rattle.std.proofs.lemmas.List.Sums.{fold-append}
use Rattle.esc_term.specs.declared.term.Term.{Term}
use Rattle.esc_term.specs.declared.term.Term.TheVariants as term
use Rattle.esc_nodes.specs.declared.top.Top.{Top}
use Rattle.esc_nodes.specs.declared.top.Top.TheVariants.{Num, App}
use Rattle.esc_nodes.specs.Nodes.{Shape, shape, shape_at, AreTerms}
use Rattle.esc_nodes.specs.Terms.{built, at_place, with_next, terms_of, term_of}
use Rattle.esc_nodes.specs.TableInside.{Filed, bucket_at}
use Rattle.esc_term.specs.Digest.{mixed, digest, term_mixed}
use Rattle.esc_nodes.specs.TopDigest.{top_digest}
use Rattle.esc_nodes.specs.DigestsInside.{digests, shape_digest}
use Rattle.esc_term.proofs.DigestLevels.{digest-Num, digest-App, fold-map}
use Rattle.esc_nodes.proofs.NodeTerms.{terms_stay, terms_are_built, count_terms}

-- that of the term that is built, where a numeral has no arguments
pub digest-built : (of : ℕ → Term) (top : Top) (args : List ℕ) → shape top args
    ≡ record { top = top; args = args } →
    digest (built of top args) ≡ fold (λ d a. mixed d (digest (of a))) (top_digest top) args
digest-built of (Num n) [] bare = digest-Num n
digest-built of (Num n) (a ∷ args) bare = absurd (omega
    (arith, ap (λ (s : Shape). length s.args) bare))
digest-built of (App head) args bare = digest-App head (map of args)
    ∙ fold-map term_mixed of (top_digest (App head)) args

pub digests-push : (nodes : List Shape) (s : Shape) → digests (nodes ++ (s ∷ [])) ≡ digests nodes
    ++ (digest (built (term_of nodes) s.top s.args) ∷ [])
unfolding terms_of term_of
digests-push nodes s =
    ap (map digest) (fold-append with_next [] nodes (s ∷ []))
    ∙ map-append digest (terms_of nodes) (built (at_place (terms_of nodes)) s.top s.args ∷ [])

pub digests-at : (nodes : List Shape) (k : ℕ) → k < length nodes → get_or (digests nodes) k 0
    ≡ digest (term_of nodes k)
unfolding term_of
digests-at nodes k l = get_or-map digest (terms_of nodes) k (term.Num (pos 0)) 0
    (omega (arith, l, count_terms nodes))

pub digests-past : (nodes : List Shape) (k : ℕ) → length nodes ≤ k → top_digest (Num (pos 0))
    ≡ digest (term_of nodes k)
unfolding term_of
digests-past nodes k l =
    sym (ap digest (get_or_past (terms_of nodes) k (term.Num (pos 0))
    (omega (arith, l, count_terms nodes))) ∙ digest-Num (pos 0))

-- that of a node of this shape
pub digests-shape : (nodes : List Shape) (k : ℕ) (top : Top) (args : List ℕ) → AreTerms nodes → k
    < length nodes →
    shape_at nodes k ≡ record { top = top; args = args } → get_or (digests nodes) k 0
    ≡ shape_digest nodes top args
digests-shape nodes k top args are l is =
    digests-at nodes k l
    ∙ (ap digest (terms_are_built nodes are k l ∙ ap
    (λ (s : Shape). built (term_of nodes) s.top s.args) is)
    ∙ digest-built (term_of nodes) top args (ap (λ (s : Shape). shape s.top s.args) (sym is)
    ∙ (are.bare k l ∙ is)))

pub count_digests : (nodes : List Shape) → length (digests nodes) ≡ length nodes
count_digests nodes = length-map (terms_of nodes) digest ∙ count_terms nodes

pub digests-none : digests [] ≡ []
unfolding terms_of
digests-none = refl

-- one more node
pub digests-more : (nodes : List Shape) (filed : List ℕ) (top : Top) (args : List ℕ) → filed
    ≡ digests nodes →
    shape top args ≡ record { top = top; args = args } →
    filed ++ (shape_digest nodes top args ∷ []) ≡ digests (nodes
    ++ (record { top = top; args = args } ∷ []))
digests-more nodes filed top args are bare =
    ap (λ ds. ds ++ (shape_digest nodes top args ∷ [])) are
    ∙ (ap (λ d. digests nodes ++ (d ∷ [])) (sym (digest-built (term_of nodes) top args bare))
    ∙ sym (digests-push nodes (record { top = top; args = args })))

-- the first nodes
digests-take : (nodes : List Shape) (n : ℕ) → n ≤ length nodes → digests (take n nodes)
    ≡ take n (digests nodes)
digests-take nodes n within =
    let front : length (take n nodes) ≡ n = omega (arith, length-take n nodes, within) in
    let count : length (digests (take n nodes)) ≡ n = omega
    (arith, count_digests (take n nodes), front) in
    same_number_lists (digests (take n nodes)) (take n (digests nodes))
    (omega (arith, count, length-take n (digests nodes), count_digests nodes, within))
    (λ k l.
    let fits : k < length (take n nodes) = omega (arith, l, count, front) in
    digests-at (take n nodes) k fits
    ∙ (ap digest (sym (terms_stay (take n nodes) (drop n nodes) k fits)
    ∙ ap (λ ns. term_of ns k) (take-append-drop n nodes))
    ∙ (sym (digests-at nodes k (omega (arith, l, count, within)))
    ∙ sym (get_or-take n (digests nodes) k 0 (omega (arith, l, count))))))

pub digests-fewer : (nodes fewer : List Shape) (filed : List ℕ) → filed ≡ digests nodes → fewer
    ≡ take (length nodes - 1) nodes →
    take (length filed - 1) filed ≡ digests fewer
digests-fewer nodes fewer filed are e =
    let count : length filed - 1 ≡ length nodes - 1 = omega
    (arith, ap length are, count_digests nodes) in
    ap (λ n. take n filed) count
    ∙ (ap (take (length nodes - 1)) are
    ∙ (sym (digests-take nodes (length nodes - 1) (omega arith)) ∙ ap digests (sym e)))

-- where a table has the digests of nodes
module _ (nodes : List Shape) (t : Filed) (are : t.digests ≡ digests nodes) where
  pub filed-count : length t.digests ≡ length nodes
  filed-count = ap length are ∙ count_digests nodes

  filed-at : (k : ℕ) → k < length nodes → get_or t.digests k 0 ≡ digest (term_of nodes k)
  filed-at k l = ap (λ ds. get_or ds k 0) are ∙ digests-at nodes k l

  pub filed-read : (i k d : ℕ) → i ≡ k → (i < length t.digests) × (d ≡ get_or t.digests i 0) → d
      ≡ digest (term_of nodes k)
  filed-read i k d e is = is.1 ∙ (filed-at i (omega (arith, is.0, filed-count))
      ∙ ap (λ j. digest (term_of nodes j)) e)

  pub filed-past : (i k d : ℕ) → i ≡ k → length t.digests ≤ i → d ≡ top_digest (Num (pos 0)) → d
      ≡ digest (term_of nodes k)
  filed-past i k d e l is = is ∙ digests-past nodes k (omega (arith, l, e, filed-count))

  -- the bucket of the nodes of a term, and of a shape
  pub filed-term : (t' : Term) (k : ℕ) → k < length nodes → term_of nodes k ≡ t' → bucket_at t k
      ≡ digest t' % t.buckets
  filed-term t' k l is = ap (λ d. d % t.buckets) (filed-at k l ∙ ap digest is)

  pub filed-shape : AreTerms nodes → (top : Top) (args : List ℕ) (k : ℕ) → k < length nodes →
      shape_at nodes k ≡ record { top = top; args = args } → bucket_at t k
      ≡ shape_digest nodes top args % t.buckets
  filed-shape terms top args k l is =
      ap (λ d. d % t.buckets) (ap (λ ds. get_or ds k 0) are
      ∙ digests-shape nodes k top args terms l is)
