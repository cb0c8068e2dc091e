-- What is written behind a table.
use Rattle.std.proofs.Common.{◌≡◌, ℕ, ◌+◌, ◌-◌, List, [], ◌∷◌, ◌++◌}
use Rattle.std.proofs.Common.{length}
use Rattle.std.proofs.Common.{map, set, refl, ap, ap₂, sym, subst, ◌∙◌, arith}
use Rattle.std.proofs.Common.{append_assoc, length-append}
use Rattle.std.proofs.lemmas.List.{append-nil, length-map, map-append, set-append_right}
use Rattle.std.proofs.lemmas.List.Concat.{flat_map-append}
use Rattle.std.proofs.lemmas.List.Elements.{All-append, All-cons, All-nil}
use Rattle.std.specs.List.{All, flat_map}
use Rattle.esc_term.specs.declared.formula.Formula.{Formula}
use Rattle.esc_term.specs.declared.formula.Formula.TheViews.{out-Formula}
use Rattle.esc_egraph.specs.Graph.{Graph}
use Rattle.esc_book.specs.Book.{HasNodes, IsPage, heads_of, laid, own, pairs_form, told}
use Rattle.esc_book.specs.Book.{Outline}
use Rattle.esc_book.specs.WritingInside.{IsKindOf, Writes}
use Rattle.esc_book.specs.declared.entry.Entry.{Entry}
use Rattle.esc_book.specs.declared.entry.Kind.{Kind}
use Rattle.esc_book.proofs.Laying.{laid-append, length-laid}

module _ (g : Graph) where
  abbrev Held : Entry → Type 0
  Held e = HasNodes g e.kind

  pub writes_none : (start : ℕ) (old : List Entry) → Writes g [] start old old start
  writes_none start old = record {
    more = [];
    behind = sym (append-nil old);
    is = refl;
    nodes = All-nil Held;
    ends = omega arith;
  }

  pub length-more : (fs : List Formula) (start : ℕ) (old new : List Entry) (end : ℕ)
      (w : Writes g fs start old new end) → length new ≡ length old + length fs
  length-more fs start old new end w =
      let count : length w.more ≡ length fs =
      sym (length-map w.more (told g)) ∙ (ap length w.is ∙ length-laid start (length old) fs) in
      ap length w.behind ∙ (length-append old w.more ∙ ap (λ n. length old + n) count)

  pub writes_both : (fs ks : List Formula) (start m end : ℕ) (old mid new : List Entry)
      → Writes g fs start old mid m → Writes g ks m mid new end
      → Writes g (fs ++ ks) start old new end
  writes_both fs ks start m end old mid new v w =
      let place : m ≡ start + length (flat_map own fs) = v.ends in
      let index : length mid ≡ length old + length fs = length-more fs start old mid m v in
      let whole : length (flat_map own (fs ++ ks))
      ≡ length (flat_map own fs) + length (flat_map own ks) =
      ap length (flat_map-append own fs ks)
      ∙ length-append (flat_map own fs) (flat_map own ks) in
      record {
        more = v.more ++ w.more;
        behind = w.behind ∙ (ap (λ es. es ++ w.more) v.behind ∙ append_assoc old v.more w.more);
        is = map-append (told g) v.more w.more
            ∙ (ap₂ (λ a b. a ++ b) v.is (w.is ∙ ap₂ (λ x y. laid x y ks) place index)
            ∙ sym (laid-append start (length old) fs ks));
        nodes = All-append Held v.more w.more v.nodes w.nodes;
        ends = omega (arith, w.ends, place, whole);
      }

  pub writes_headed : (f : Formula) (hs : List Formula) (kind : Kind) (start end : ℕ)
      (hidden : Entry) (old mid : List Entry)
      → IsKindOf g f kind → heads_of f ≡ f ∷ hs
      → Writes g hs (start + 1 + length (pairs_form (out-Formula f))) (old ++ (hidden ∷ [])) mid end
      → Writes g (heads_of f) start old
      (set mid (length old) (record { begin = start; next = length mid; kind = kind })) end
  writes_headed f hs kind start end hidden old mid is_kind is w =
      let e : Entry = record { begin = start; next = length mid; kind = kind } in
      let one : length (old ++ (hidden ∷ [])) ≡ length old + 1 =
      length-append old (hidden ∷ []) in
      let all : length mid ≡ length old + 1 + length hs =
      length-more hs _ (old ++ (hidden ∷ [])) mid end w
      ∙ ap (λ n. n + length hs) one in
      let counted : length old + 1 + length hs ≡ length old + length (f ∷ hs) = omega arith in
      let next : length mid ≡ length old + length (heads_of f) =
      all ∙ (counted ∙ ap (λ l. length old + length l) (sym is)) in
      let parted : mid ≡ old ++ (hidden ∷ w.more) =
      w.behind ∙ append_assoc old (hidden ∷ []) w.more in
      let none : length old - length old ≡ 0 = omega arith in
      let begins : start + 1 + length (pairs_form (out-Formula f)) ≡ start + length (own f) =
      omega arith in
      let whole : length (flat_map own (f ∷ hs)) ≡ length (own f) + length (flat_map own hs) =
      length-append (own f) (flat_map own hs) in
      let behind : start + 1 + length (pairs_form (out-Formula f)) + length (flat_map own hs)
      ≡ start + length (flat_map own (f ∷ hs)) =
      omega (arith, whole) in
      record {
        more = e ∷ w.more;
        behind = ap (λ es. set es (length old) e) parted
            ∙ (set-append_right old (hidden ∷ w.more) (length old) (length old) e refl
            (omega arith)
            ∙ ap (λ n. old ++ set (hidden ∷ w.more) n e) none);
        is = ap₂ (λ (o : Outline) os. o ∷ os)
            (ap₂ (λ n form. record { begin = start; next = n; form = form }) next is_kind.form)
            (w.is ∙ ap₂ (λ x y. laid x y hs) begins one)
            ∙ ap (λ l. laid start (length old) l) (sym is);
        nodes = All-cons Held e w.more is_kind.nodes w.nodes;
        ends = w.ends ∙ (behind ∙ ap (λ l. start + length (flat_map own l)) (sym is));
      }

  pub page_from : (f : Formula) (page : List Entry) (end : ℕ)
      → Writes g (heads_of f) 0 [] page end → IsPage g f page
  page_from f page end w = record {
    is = ap (map (told g)) w.behind ∙ w.is;
    nodes = subst (All Held) (sym w.behind) w.nodes;
  }
