-- How names are printed.
use Rattle.std.specs.Prelude.{ℕ, Bool, not, ◌&&◌, if◌then◌else◌, List, [], ◌++◌, codes}
use Rattle.std.specs.Prelude.{slice_get, unwrap_or}
use Rattle.esc_names.specs.BareNames.{begins_with_at, is_bare_name}
use Rattle.esc_term.specs.declared.term.Sym.{Sym}

-- a name that would be read as the same name without bars, and that the prover did not make
abbrev pub stands_bare : List ℕ → Bool
stands_bare spelling = is_bare_name spelling && not (begins_with_at spelling)

-- in bars, unless it stands without
abbrev pub spelling_text : List ℕ → List ℕ
spelling_text spelling =
    if stands_bare spelling then spelling else codes "|" ++ (spelling ++ codes "|")

-- the name with this number in the table of names
abbrev pub name_text : List (List ℕ) → Sym → List ℕ
name_text names name = spelling_text (unwrap_or (slice_get names name.0) [])
