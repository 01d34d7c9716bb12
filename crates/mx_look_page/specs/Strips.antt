-- THE STRIP OF A SWEEP, below the rows (our own): a line for each range of positions in a row that end alike, and
-- another last line.
use Rattle.std.specs.Prelude.{ℕ, if◌then◌else◌, Bool, List, [], ◌++◌, codes}
use Rattle.std.specs.Fmt.{decimal}
use Rattle.std.specs.Str.{bytes_eq}
use Rattle.mx_look_page.specs.declared.strip.StripTerms.{StripTerms}
use Rattle.mx_look_page.specs.Json.{text}
use Rattle.mx_look_page.specs.Heads.{number_part, text_part}

-- how a range ends, if otherwise than the one before
unfoldable pub end_part : List ℕ → List ℕ → List ℕ
end_part before end = if bytes_eq before end then [] else text_part (codes "t") end

-- THE LINE OF A RANGE: whether its positions end as without the fault, the first of them, and how they end
unfoldable pub range_text : ℕ → List ℕ → List ℕ → Bool → List ℕ
range_text first before end alike =
    (if alike then codes "{\"same\":1" else codes "{\"same\":0") ++ number_part (codes "from") first
    ++ end_part before end ++ codes "}\n"

-- What a page says of a sweep as a whole: the name of the fault's file, the most turns after each position, the first
-- position, and how many there are.
pub record Strip : Type 0 where
  pub fault : List ℕ
  pub turns : ℕ
  pub from : ℕ
  pub positions : ℕ

abbrev pub strip_of : StripTerms → Strip
strip_of s = record { fault = s.fault.now; turns = s.turns; from = s.from; positions = s.positions }

unfoldable pub strip_part : Strip → List ℕ
strip_part s =
    codes ",\"sweep\":{\"fault\":" ++ text s.fault ++ number_part (codes "turns") s.turns
    ++ number_part (codes "from") s.from ++ number_part (codes "positions") s.positions ++ codes "}"

-- THE LAST LINE of a page with a strip: how many rows there are, and what is swept
unfoldable pub strip_tail_text : ℕ → Strip → List ℕ
strip_tail_text n s = codes "{\"records\":" ++ decimal n ++ strip_part s ++ codes "}\n"
