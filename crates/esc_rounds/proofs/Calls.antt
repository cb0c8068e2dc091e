-- Places at which facts are called for.
use Rattle.std.proofs.Common.{◌≡◌, ℕ, zero, suc, ◌<◌, ◌≤◌, ◌⊎◌, inl, inr, List, [], ◌∷◌, ◌++◌}
use Rattle.std.proofs.Common.{length}
use Rattle.std.proofs.Common.{get_or, map, Some, refl, ap, sym, subst, ◌∙◌, arith}
use Rattle.std.specs.Prelude.{slice_get}
use Rattle.std.specs.List.{All}
use Rattle.std.proofs.lemmas.List.Elements.{All-head, All-tail}
use Rattle.esc_nodes.specs.Nodes.{Shape, shape_at}
use Rattle.esc_egraph.specs.Congruence.{AllSame}
use Rattle.esc_egraph.specs.Graph.{Graph, number_of}
use Rattle.esc_maps.specs.Chosen.{StandsForClass}
use Rattle.esc_maps.specs.Maps.{IsWrite, StandsForWrites}
use Rattle.esc_maps.specs.declared.map_match.MapMatch.TheVariants as map_match
use Rattle.esc_maps.proofs.Leading.{stands_once, writes_once}
use Rattle.esc_rounds.specs.Called.{CalledAt, IsLiteral}
use Rattle.esc_rounds.specs.Due.{classes_of, kind_of}
use Rattle.esc_rounds.specs.Standing.{Standing}
use Rattle.esc_rounds.specs.declared.draw.Draw.{Draw}
use Rattle.esc_rounds.specs.declared.draw.Draw.TheVariants.{Witness, Map, Instance}
use Rattle.esc_rounds.specs.declared.kept.Kept.{Kept}
use Rattle.esc_rounds.specs.declared.kept.Literal.{Literal}
use Rattle.esc_rounds.specs.declared.key.Key.{Key}
use Rattle.esc_rounds.proofs.Groups.{Fits, KeysDiffer}
use Rattle.esc_rounds.proofs.Places.{Less}

-- ---- the forms of places

abbrev pub IsPlace : List ℕ → Type 0
IsPlace q =
    ((i : ℕ) × (q ≡ 0 ∷ i ∷ []))
    ⊎ (((x y : ℕ) × (r : List ℕ) × (q ≡ 1 ∷ x ∷ y ∷ r))
    ⊎ ((i k : ℕ) × (r : List ℕ) × (q ≡ 2 ∷ i ∷ k ∷ r)))

pub called_place : (s : Standing) (d : Draw) (q : List ℕ) → CalledAt s d q → IsPlace q
called_place s (Witness f) q c = inl (c.0, c.2)
called_place s (Map (map_match.Write w)) q c = inr (inl (0, w, [], c.1))
called_place s (Map (map_match.Read w j)) q c = inr (inl (1, w, j ∷ [], c.1))
called_place s (Instance f ns) q c = inr (inr (c.0, c.1, c.2, c.4))

long_place : (q : List ℕ) → IsPlace q → 2 ≤ length q
long_place q (inl h) = subst (λ p. 2 ≤ length p) (sym h.1) (omega arith)
long_place q (inr (inl h)) = subst (λ p. 2 ≤ length p) (sym h.3) (omega arith)
long_place q (inr (inr h)) = subst (λ p. 2 ≤ length p) (sym h.3) (omega arith)

pub fits_one : (s : Standing) (n : ℕ) → Fits s (n ∷ [])
fits_one s n d q c = let l = long_place q (called_place s d q c) in inl (omega (arith, l))

pub fits_two : (s : Standing) (m n : ℕ) → Fits s (m ∷ n ∷ [])
fits_two s m n d q c = inl (long_place q (called_place s d q c))

pub fits_three : (s : Standing) (i k : ℕ) → Fits s (2 ∷ i ∷ k ∷ [])
fits_three s i k d q c = by (called_place s d q c)
  where
    by : IsPlace q → (3 ≤ length q) ⊎ Less q (2 ∷ i ∷ k ∷ [])
    by (inl h) = inr (subst (λ p. Less p (2 ∷ i ∷ k ∷ [])) (sym h.1) (inl (omega arith)))
    by (inr (inl h)) = inr (subst (λ p. Less p (2 ∷ i ∷ k ∷ [])) (sym h.3) (inl (omega arith)))
    by (inr (inr h)) = inl (subst (λ p. 3 ≤ length p) (sym h.3) (omega arith))

-- ---- literals

-- a literal of one number is one, and so is its formula
pub same_literal : (s : Standing) (i j f : ℕ) (literal its : Literal) (formula kept : Kept)
    → slice_get s.literals i ≡ Some literal → slice_get s.formulas literal.formula ≡ Some formula
    → i ≡ j → IsLiteral s j f its kept
    → (f ≡ literal.formula) × (its ≡ literal) × (kept ≡ formula)
same_literal s i j f literal its formula kept mine mine_kept e is =
    let there : slice_get s.literals j ≡ Some its = is.there in
    let literal_is : its ≡ literal = cc in
    let f_is : f ≡ literal.formula =
    sym is.formula_is ∙ ap (λ (l : Literal). l.formula) literal_is in
    let kept_there : slice_get s.formulas f ≡ Some kept = is.kept in
    let kept_is : kept ≡ formula = cc in
    (f_is, literal_is, kept_is)

-- ---- keys

module _ (g : Graph) (depths : List ℕ) where
  -- nodes that stand for the same classes are the same
  pub stand_once : (ns ms : List ℕ) → All (StandsForClass g depths) ns
      → All (StandsForClass g depths) ms → map (number_of g) ns ≡ map (number_of g) ms → ns ≡ ms
  stand_once [] [] first second e = refl
  stand_once [] (m ∷ ms) first second e = cc
  stand_once (n ∷ ns) [] first second e = cc
  stand_once (n ∷ ns) (m ∷ ms) first second e =
      let same : number_of g n ≡ number_of g m = cc in
      let rest : map (number_of g) ns ≡ map (number_of g) ms = cc in
      let head : n ≡ m =
      stands_once g depths n m (All-head (StandsForClass g depths) n ns first)
      (All-head (StandsForClass g depths) m ms second) same in
      let tail : ns ≡ ms =
      stand_once ns ms (All-tail (StandsForClass g depths) n ns first)
      (All-tail (StandsForClass g depths) m ms second) rest in
      cc

same_numbers : (number : ℕ → ℕ) (ns ms : List ℕ) → map number ns ≡ map number ms
    → AllSame number ns ms
same_numbers number [] [] e = record { lengths = refl; places = λ k l. refl }
same_numbers number [] (m ∷ ms) e = cc
same_numbers number (n ∷ ns) [] e = cc
same_numbers number (n ∷ ns) (m ∷ ms) e =
    let head : number n ≡ number m = cc in
    let rest : map number ns ≡ map number ms = cc in
    let all = same_numbers number ns ms rest in record {
      lengths = ap suc all.lengths;
      places = λ k l. places_from head all k l;
    }
  where
    places_from : number n ≡ number m → AllSame number ns ms → (k : ℕ) → k < length (n ∷ ns)
        → number (get_or (n ∷ ns) k 0) ≡ number (get_or (m ∷ ms) k 0)
    places_from head all zero l = head
    places_from head all (suc k) l = all.places k (omega (arith, l))

module _ (s : Standing) where
  writes_same : (w v : ℕ) → StandsForWrites s.graph s.depths w → StandsForWrites s.graph s.depths v
      → map (number_of s.graph) (shape_at s.graph.nodes w).args
      ≡ map (number_of s.graph) (shape_at s.graph.nodes v).args → w ≡ v
  writes_same w v first second e =
      let top : (shape_at s.graph.nodes w).top ≡ (shape_at s.graph.nodes v).top =
      ap (λ (t : Shape). t.top) first.0.3 ∙ sym (ap (λ (t : Shape). t.top) second.0.3) in
      writes_once s.graph s.depths w v first second
      (record { top = top; args = same_numbers (number_of s.graph) _ _ e })
      (record { top = sym top; args = same_numbers (number_of s.graph) _ _ (sym e) })

  -- the arguments of two writes with one node more each
  args_same : (w v j k : ℕ) → IsWrite s.graph w → IsWrite s.graph v
      → map (number_of s.graph) ((shape_at s.graph.nodes w).args ++ j ∷ [])
      ≡ map (number_of s.graph) ((shape_at s.graph.nodes v).args ++ k ∷ [])
      → (map (number_of s.graph) (shape_at s.graph.nodes w).args
      ≡ map (number_of s.graph) (shape_at s.graph.nodes v).args)
      × (number_of s.graph j ≡ number_of s.graph k)
  args_same w v j k first second e =
      let ws : (shape_at s.graph.nodes w).args ≡ first.0 ∷ first.1 ∷ first.2 ∷ [] =
      ap (λ (t : Shape). t.args) first.3 in
      let vs : (shape_at s.graph.nodes v).args ≡ second.0 ∷ second.1 ∷ second.2 ∷ [] =
      ap (λ (t : Shape). t.args) second.3 in
      let number = number_of s.graph in
      let whole : number first.0 ∷ number first.1 ∷ number first.2 ∷ number j ∷ []
      ≡ number second.0 ∷ number second.1 ∷ number second.2 ∷ number k ∷ [] =
      sym (ap (λ xs. map number (xs ++ j ∷ [])) ws)
      ∙ (e ∙ ap (λ xs. map number (xs ++ k ∷ [])) vs) in
      let a : number first.0 ≡ number second.0 = cc in
      let b : number first.1 ≡ number second.1 = cc in
      let d : number first.2 ≡ number second.2 = cc in
      let last : number j ≡ number k = cc in
      let args : number first.0 ∷ number first.1 ∷ number first.2 ∷ []
      ≡ number second.0 ∷ number second.1 ∷ number second.2 ∷ [] = cc in
      (ap (map number) ws ∙ (args ∙ sym (ap (map number) vs)), last)

  pub keys_differ : KeysDiffer s
  keys_differ a b p q ca cb e =
      by a b p q ca cb (ap (λ (k : Key). k.kind) e) (ap (λ (k : Key). k.classes) e)
    where
      by : (a b : Draw) (p q : List ℕ) → CalledAt s a p → CalledAt s b q → kind_of a ≡ kind_of b
          → classes_of s.graph a ≡ classes_of s.graph b → a ≡ b
      by (Witness f) (Witness h) p q ca cb kinds classes =
          let e : f ≡ h = cc in ap Witness e
      by (Witness f) (Map (map_match.Write v)) p q ca cb kinds classes = cc
      by (Witness f) (Map (map_match.Read v k)) p q ca cb kinds classes = cc
      by (Witness f) (Instance h ms) p q ca cb kinds classes = cc
      by (Map (map_match.Write w)) (Witness h) p q ca cb kinds classes = cc
      by (Map (map_match.Read w j)) (Witness h) p q ca cb kinds classes = cc
      by (Map (map_match.Write w)) (Map (map_match.Write v)) p q ca cb kinds classes =
          ap (λ n. Map (map_match.Write n)) (writes_same w v ca.0 cb.0 classes)
      by (Map (map_match.Write w)) (Map (map_match.Read v k)) p q ca cb kinds classes = cc
      by (Map (map_match.Read w j)) (Map (map_match.Write v)) p q ca cb kinds classes = cc
      by (Map (map_match.Read w j)) (Map (map_match.Read v k)) p q ca cb kinds classes =
          let same = args_same w v j k ca.0.0.0 cb.0.0.0 classes in
          let first : w ≡ v = writes_same w v ca.0.0 cb.0.0 same.0 in
          let second : j ≡ k = stands_once s.graph s.depths j k ca.0.1 cb.0.1 same.1 in
          cc
      by (Map (map_match.Write w)) (Instance h ms) p q ca cb kinds classes = cc
      by (Map (map_match.Read w j)) (Instance h ms) p q ca cb kinds classes = cc
      by (Instance f ns) (Witness h) p q ca cb kinds classes = cc
      by (Instance f ns) (Map (map_match.Write v)) p q ca cb kinds classes = cc
      by (Instance f ns) (Map (map_match.Read v k)) p q ca cb kinds classes = cc
      by (Instance f ns) (Instance h ms) p q ca cb kinds classes =
          let first : f ≡ h = cc in
          let second : ns ≡ ms = stand_once s.graph s.depths ns ms ca.3.stand cb.3.stand classes in
          cc
