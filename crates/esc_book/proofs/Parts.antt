-- How the parts of a formula are read off its table.
use Rattle.std.proofs.Common.{◌≡◌, ℕ, ◌+◌, ◌<◌, ◌≤◌, Bool, List, [], ◌∷◌, ◌++◌, Some, length}
use Rattle.std.proofs.Common.{ap, ap₂, sym, ◌∙◌, append_assoc, arith, length-append}
use Rattle.std.proofs.lemmas.List.{append-nil}
use Rattle.std.specs.List.{flat_map, slice_get}
use Rattle.esc_term.specs.declared.formula.Formula.{Formula}
use Rattle.esc_clause.specs.Expansion.{from_place}
use Rattle.esc_clause.specs.declared.occurrence.Occurrence.{Occurrence}
use Rattle.esc_book.specs.Book.{heads_of}
use Rattle.esc_book.specs.ReadingInside.{AreThere, begin_at}
use Rattle.esc_book.proofs.Nested.{first_there, heads_first, later_there}
use Rattle.esc_book.proofs.Reading.{begin_at-next}

module _ (f : Formula) (fact : ℕ) (positive : Bool) (to : ℕ) (whole : List Occurrence) where
  -- the parts that are still to be read, which with those that were read are all
  pub record PartsLeft (index : ℕ) (parts : List Occurrence) : Type 0 where
    pub left : List Formula
    pub there : AreThere (heads_of f) index left
    pub ends : to ≡ index + length (flat_map heads_of left)
    pub joined : parts ++ from_place fact (begin_at (heads_of f) index) positive left ≡ whole

  abbrev part : ℕ → Occurrence
  part place = record { fact = fact; place = place; positive = positive }

  -- the next of them, and what is left when it was read
  pub record NextPart (index : ℕ) (parts : List Occurrence) : Type 0 where
    pub of : Formula
    pub first : slice_get (heads_of f) index ≡ Some of
    pub further : index < index + length (heads_of of)
    pub read : (begin : ℕ) → begin ≡ begin_at (heads_of f) index
        → PartsLeft (index + length (heads_of of)) (parts ++ (part begin ∷ []))

  pub parts_step : (index : ℕ) (parts : List Occurrence) → index < to → PartsLeft index parts
      → NextPart index parts
  parts_step index parts more state = by state.left state.there state.ends state.joined
    where
      by : (left : List Formula) → AreThere (heads_of f) index left
          → to ≡ index + length (flat_map heads_of left)
          → parts ++ from_place fact (begin_at (heads_of f) index) positive left ≡ whole
          → NextPart index parts
      by [] there ends joined =
          let none : to ≡ index + 0 = ends in
          absurd (omega (arith, more, none))
      by (p ∷ ps) there ends joined = record {
        of = p;
        first = first_there (heads_of f) index p ps there;
        further = omega (arith, ap length (heads_first p).1);
        read = λ begin is. record {
          left = ps;
          there = later_there (heads_of f) index p ps there;
          ends = omega (arith, ends, length-append (heads_of p) (flat_map heads_of ps));
          joined = append_assoc parts (part begin ∷ []) (from_place fact
              (begin_at (heads_of f) (index + length (heads_of p))) positive ps)
              ∙ (ap₂ (λ b n. parts ++ (part b ∷ from_place fact n positive ps)) is
              (begin_at-next (heads_of f) index p ps there) ∙ joined);
        };
      }

  pub parts_done : (index : ℕ) (parts : List Occurrence) → to ≤ index → PartsLeft index parts
      → parts ≡ whole
  parts_done index parts no_more state = by state.left state.ends state.joined
    where
      by : (left : List Formula) → to ≡ index + length (flat_map heads_of left)
          → parts ++ from_place fact (begin_at (heads_of f) index) positive left ≡ whole
          → parts ≡ whole
      by [] ends joined = sym (append-nil parts) ∙ joined
      by (p ∷ ps) ends joined =
          absurd (omega (
            arith,
            no_more,
            ends,
            ap length (heads_first p).1,
            length-append (heads_of p) (flat_map heads_of ps),
          ))
