-- A formula that is written before what stands behind it, and formulas that are written in turn.
use Rattle.std.proofs.Common.{◌≡◌, ℕ, ◌+◌, ◌<◌, List, [], ◌∷◌, ◌++◌, length, take, drop, set}
use Rattle.std.proofs.Common.{get_or}
use Rattle.std.proofs.Common.{Ok, Err, Result, IfOk, ap, ap₂, sym, subst, ◌∙◌, arith}
use Rattle.std.proofs.Common.{length-append}
use Rattle.std.proofs.lemmas.List.{append-nil, take_more}
use Rattle.std.proofs.lemmas.List.Concat.{flat_map-append}
use Rattle.std.specs.List.{flat_map}
use Rattle.esc_term.specs.declared.term.Term.{Term}
use Rattle.esc_term.specs.declared.formula.Formula.{Formula}
use Rattle.esc_term.specs.declared.formula.Formula.TheVariants as formula
use Rattle.esc_egraph.specs.Graph.{Graph}
use Rattle.esc_book.specs.Book.{heads_of}
use Rattle.esc_book.specs.GroupInside.{pair_count}
use Rattle.esc_book.specs.WritingInside.{IsKindOf, Writes, behind_own, inside_of}
use Rattle.esc_book.specs.declared.entry.Entry.{Entry}
use Rattle.esc_book.specs.declared.entry.Kind.{Kind}
use Rattle.esc_book.proofs.Inside.{GoesInside, inside-Distinct, inside-written}
use Rattle.esc_book.proofs.Nested.{heads_first}
use Rattle.esc_book.proofs.Writings.{length-more, writes_both, writes_headed}

pub heads-inside : (f : Formula) → heads_of f ≡ f ∷ inside_of f
heads-inside f =
    let first = heads_first f in
    first.1 ∙ ap (λ l. f ∷ drop 1 l) (sym first.1)

module _ (g : Graph) (f : Formula) where
  pub written-heads : (kind : Kind) (start inside index next end : ℕ) (hidden : Entry)
      (old pushed mid new : List Entry) → IsKindOf g f kind → inside ≡ start + 1
      → index ≡ length old → pushed ≡ old ++ (hidden ∷ [])
      → Writes g (inside_of f) (behind_own inside f) pushed mid end → next ≡ length mid
      → new ≡ set mid index (record { begin = start; next = next; kind = kind })
      → Writes g (heads_of f) start old new end
  written-heads kind start inside index next end hidden old pushed mid new is_kind at_inside
      at_index at_pushed w at_next at_new =
      let by_place : Writes g (inside_of f) (behind_own (start + 1) f) pushed mid end =
      subst (λ n. Writes g (inside_of f) (behind_own n f) pushed mid end) at_inside w in
      let by_list : Writes g (inside_of f) (behind_own (start + 1) f) (old ++ (hidden ∷ [])) mid
      end =
      subst (λ es. Writes g (inside_of f) (behind_own (start + 1) f) es mid end) at_pushed
      by_place in
      subst (λ es. Writes g (heads_of f) start old es end)
      (sym (at_new ∙ ap₂ (λ i n. set mid i (record { begin = start; next = n; kind = kind }))
      at_index at_next))
      (writes_headed g f (inside_of f) kind start end hidden old mid is_kind (heads-inside f)
      by_list)

  pub written-within : (place index end : ℕ) (hidden : Entry) (old pushed mid : List Entry)
      → index ≡ length old → pushed ≡ old ++ (hidden ∷ [])
      → Writes g (inside_of f) place pushed mid end → index < length mid
  written-within place index end hidden old pushed mid at_index at_pushed w =
      omega (
        arith,
        at_index,
        length-more g (inside_of f) place pushed mid end w,
        ap length at_pushed,
        length-append old (hidden ∷ []),
      )

  pub inside-if : {E : Type 0} (hs : List Formula) (n : ℕ) (old new : List Entry) (r : Result ℕ E)
      → GoesInside f hs → IfOk r (Writes g hs n old new)
      → IfOk r (Writes g (inside_of f) (behind_own n f) old new)
  inside-if hs n old new (Ok end) is w = inside-written g f hs n end old new is w
  inside-if hs n old new (Err e) is w = tt

  pub distinct-if : {E : Type 0} (ts : List Term) (count n : ℕ) (old : List Entry) (r : Result ℕ E)
      → f ≡ formula.Distinct ts → count ≡ length ts → IfOk r (λ end. end ≡ n + pair_count count)
      → IfOk r (Writes g (inside_of f) (behind_own n f) old old)
  distinct-if ts count n old (Ok end) e many is =
      subst (λ x. Writes g (inside_of x) (behind_own n x) old old end) (sym e)
      (inside-Distinct g n old ts count end many is)
  distinct-if ts count n old (Err r) e many is = tt

pub writes_more : (g : Graph) (fs : List Formula) (i : ℕ) (f : Formula) (start m end : ℕ)
    (old mid new : List Entry) → i < length fs → f ≡ get_or fs i f
    → Writes g (flat_map heads_of (take i fs)) start old mid m → Writes g (heads_of f) m mid new end
    → Writes g (flat_map heads_of (take (i + 1) fs)) start old new end
writes_more g fs i f start m end old mid new within is v w =
    let more : take (i + 1) fs ≡ take i fs ++ (f ∷ []) =
    take_more fs i f within ∙ ap (λ x. take i fs ++ (x ∷ [])) (sym is) in
    let whole : flat_map heads_of (take (i + 1) fs)
    ≡ flat_map heads_of (take i fs) ++ heads_of f =
    ap (flat_map heads_of) more ∙ (flat_map-append heads_of (take i fs) (f ∷ [])
    ∙ ap (λ l. flat_map heads_of (take i fs) ++ l) (append-nil (heads_of f))) in
    subst (λ l. Writes g l start old new end) (sym whole)
    (writes_both g (flat_map heads_of (take i fs)) (heads_of f) start m end old mid new v w)
