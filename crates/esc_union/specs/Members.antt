-- The members of classes in order.
use Rattle.std.specs.Prelude.{ℕ, List, [], ◌∷◌, ◌++◌, ◌==◌, if◌then◌else◌, take}
use Rattle.std.specs.List.{fold}
use Rattle.esc_union.specs.Merges.{class_number, with_merge, merge_at}

-- the class numbers, and for each number the members of its class in the order in which they came
pub record Listed : Type 0 where
  pub number : ℕ → ℕ
  pub members : ℕ → List ℕ

-- the class of a pair's first node goes to the end of that of its second, and keeps its own list
abbrev pub with_listed : Listed → ℕ × ℕ → Listed
with_listed l m = record {
  number = with_merge l.number m;
  members = λ k. if k == l.number m.1 then l.members k ++ l.members (l.number m.0) else l.members k;
}

unfoldable pub members_of : List (ℕ × ℕ) → ℕ → List ℕ
members_of merges = (fold with_listed (record { number = λ k. k; members = λ k. k ∷ [] })
    merges).members

-- the members of the class that a merge did away with, as they were before it
abbrev pub moved_by : List (ℕ × ℕ) → ℕ → List ℕ
moved_by merges i = members_of (take i merges) (class_number (take i merges) (merge_at merges i).0)
