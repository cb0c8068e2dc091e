-- What is said of formulas one after the other, whose entries stand side by side.
use Rattle.std.proofs.Common.{◌≡◌, ℕ, ◌+◌, ◌<◌, ◌≤◌, Bool, true, false, ◌&&◌, ◌||◌}
use Rattle.std.proofs.Common.{List, [], ◌∷◌, Some, length, refl, ap, ap₂, sym, ◌∙◌, arith}
use Rattle.std.proofs.Common.{length-append}
use Rattle.std.specs.List.{flat_map, slice_get}
use Rattle.esc_term.specs.declared.formula.Formula.{Formula}
use Rattle.esc_cover.proofs.CoverLevels.{cover-And, cover-Or}
use Rattle.esc_cover.specs.Cover.{Cover}
use Rattle.esc_said.proofs.Unlike.{and_true, or_false}
use Rattle.esc_said.specs.Speaking.{SaysAs}
use Rattle.esc_said.specs.declared.said.Said.{Said}
use Rattle.esc_book.specs.Book.{heads_of}
use Rattle.esc_book.specs.Judging.{classes_for, literals_for}
use Rattle.esc_book.specs.JudgingInside.{AreBetween, cover_by, joined, of_none, of_parts}
use Rattle.esc_book.specs.declared.judge.BookJudge.{BookJudge}
use Rattle.esc_book.proofs.Nested.{first_there, heads_first, later_there}

and_assoc : (a b c : Bool) → ((a && b) && c) ≡ (a && (b && c))
and_assoc true b c = refl
and_assoc false b c = refl

or_assoc : (a b c : Bool) → ((a || b) || c) ≡ (a || (b || c))
or_assoc true b c = refl
or_assoc false b c = refl

abbrev cover_of : Bool → Bool → Cover
cover_of h f = record { holds = h; fails = f }

joined_assoc : (all : Bool) (c d e : Cover)
    → joined all (joined all c d) e ≡ joined all c (joined all d e)
joined_assoc true c d e =
    ap₂ cover_of (and_assoc c.holds d.holds e.holds) (or_assoc c.fails d.fails e.fails)
joined_assoc false c d e =
    ap₂ cover_of (or_assoc c.holds d.holds e.holds) (and_assoc c.fails d.fails e.fails)

joined_none : (all : Bool) (c : Cover) → joined all c (of_none all) ≡ c
joined_none true c = ap₂ cover_of (and_true c.holds) (or_false c.fails)
joined_none false c = ap₂ cover_of (or_false c.holds) (and_true c.fails)

none_joined : (all : Bool) (c : Cover) → joined all (of_none all) c ≡ c
none_joined true c = refl
none_joined false c = refl

abbrev pub as_cover : Said → Cover
as_cover said = record { holds = said.holds; fails = said.fails }

pub as_said : (said : Said) (c : Cover) → SaysAs said c → as_cover said ≡ c
as_said said c is = ap₂ cover_of is.holds is.fails

module _ (j : BookJudge) (all : Bool) where
  parts_none : (b : Bool) → cover_by j (of_parts b []) ≡ of_none b
  parts_none true = cover-And (literals_for j) (classes_for j) []
  parts_none false = cover-Or (literals_for j) (classes_for j) []

  parts_more : (b : Bool) (p : Formula) (ps : List Formula) → cover_by j (of_parts b (p ∷ ps))
      ≡ joined b (cover_by j p) (cover_by j (of_parts b ps))
  parts_more true p ps =
      cover-And (literals_for j) (classes_for j) (p ∷ ps)
      ∙ sym (ap (joined true (cover_by j p)) (cover-And (literals_for j) (classes_for j) ps))
  parts_more false p ps =
      cover-Or (literals_for j) (classes_for j) (p ∷ ps)
      ∙ sym (ap (joined false (cover_by j p)) (cover-Or (literals_for j) (classes_for j) ps))

  -- what was said of those before, with what is said of the rest, is what is said of all
  pub record IsLeft (hs : List Formula) (index to : ℕ) (said : Said) (whole : Cover) : Type 0 where
    pub rest : List Formula
    pub between : AreBetween hs index to rest
    pub so_far : joined all (as_cover said) (cover_by j (of_parts all rest)) ≡ whole

  pub left_starts : (hs : List Formula) (from to : ℕ) (said : Said) (ps : List Formula)
      → AreBetween hs from to ps → SaysAs said (of_none all)
      → IsLeft hs from to said (cover_by j (of_parts all ps))
  left_starts hs from to said ps between none = record {
    rest = ps;
    between = between;
    so_far = ap (λ c. joined all c (cover_by j (of_parts all ps)))
        (as_said said (of_none all) none)
        ∙ none_joined all (cover_by j (of_parts all ps));
  }

  pub left_done : (hs : List Formula) (index to : ℕ) (said : Said) (whole : Cover)
      → IsLeft hs index to said whole → to ≤ index → SaysAs said whole
  left_done hs index to said whole left past = done left.rest left.between left.so_far
    where
      done : (rest : List Formula) → AreBetween hs index to rest
          → joined all (as_cover said) (cover_by j (of_parts all rest)) ≡ whole
          → SaysAs said whole
      done [] between so_far =
          let is : as_cover said ≡ whole =
          sym (joined_none all (as_cover said))
          ∙ (ap (joined all (as_cover said)) (sym (parts_none all)) ∙ so_far) in
          record { holds = ap (λ c. c.holds) is; fails = ap (λ c. c.fails) is }
      done (p ∷ rest) between so_far =
          absurd (omega (
            arith,
            past,
            between.ends,
            length-append (heads_of p) (flat_map heads_of rest),
            ap length (heads_first p).1,
          ))

  -- the first of the rest, and what is left behind it
  pub record IsNext (hs : List Formula) (index to : ℕ) (said : Said) (whole : Cover) : Type 0 where
    pub part : Formula
    pub there : slice_get hs index ≡ Some part
    pub further : index < index + length (heads_of part)
    pub left : (said_here after : Said) → SaysAs said_here (cover_by j part)
        → ((c d : Cover) → SaysAs said c → SaysAs said_here d → SaysAs after (joined all c d))
        → IsLeft hs (index + length (heads_of part)) to after whole

  pub left_more : (hs : List Formula) (index to : ℕ) (said : Said) (whole : Cover)
      → IsLeft hs index to said whole → index < to → IsNext hs index to said whole
  left_more hs index to said whole left more = go left.rest left.between left.so_far
    where
      go : (rest : List Formula) → AreBetween hs index to rest
          → joined all (as_cover said) (cover_by j (of_parts all rest)) ≡ whole
          → IsNext hs index to said whole
      go [] between so_far = absurd (omega (arith, more, between.ends))
      go (p ∷ rest) between so_far = record {
        part = p;
        there = first_there hs index p rest between.there;
        further = omega (arith, ap length (heads_first p).1);
        left = λ said_here after is both. record {
          rest = rest;
          between = record {
            there = later_there hs index p rest between.there;
            ends = omega (
              arith,
              between.ends,
              length-append (heads_of p) (flat_map heads_of rest),
            );
          };
          so_far =
              let now : SaysAs after (joined all (as_cover said) (cover_by j p)) =
              both (as_cover said) (cover_by j p) (record { holds = refl; fails = refl }) is in
              ap (λ c. joined all c (cover_by j (of_parts all rest)))
              (as_said after (joined all (as_cover said) (cover_by j p)) now)
              ∙ (joined_assoc all (as_cover said) (cover_by j p) (cover_by j (of_parts all rest))
              ∙ (ap (joined all (as_cover said)) (sym (parts_more all p rest)) ∙ so_far));
        };
      }
