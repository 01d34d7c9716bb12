-- Where the figures are (our own design): whole numbers of pixels, from the top left corner.
use Rattle.std.specs.Prelude.{ℕ, ◌+◌, ◌-◌, ◌*◌, ◌/◌, nat_lt, min, max, if◌then◌else◌}
use Rattle.mx_app_draw.specs.declared.layout.Strip.{Strip}

-- COLUMNS, one for each record: column 0 is the world before the strip, column i that after its i-th record
abbrev pub column : ℕ → ℕ
column i = 120 + 28 * i

-- the middle of ROW r, of a strip whose top is y: row 0 is outside, row 1 + s service s, the last the console
abbrev pub row : ℕ → ℕ → ℕ
row y r = y + 40 + 32 * r

abbrev pub rows : ℕ → ℕ
rows services = services + 2

-- the row of slot s; 0 (outside) if it is no service
abbrev pub row_of : ℕ → ℕ → ℕ
row_of services s = if nat_lt s services then 1 + s else 0

-- STRIPS of at most 40 records, one below the other
abbrev pub strip_height : ℕ → ℕ
strip_height services = 32 * rows services + 40

abbrev pub strip_top : ℕ → ℕ → ℕ
strip_top services k = 32 + k * strip_height services

abbrev pub strip_count : ℕ → ℕ
strip_count n = max 1 ((n + 40 - 1) / 40)

abbrev pub strip_at : ℕ → ℕ → ℕ → Strip
strip_at services n k = record { place = 40 * k; count = min 40 (n - 40 * k); top = strip_top services k }

-- THE PAPER is as wide as the widest strip, but at least as 12 records, with room for the texts at both ends
abbrev pub paper_width : ℕ → ℕ
paper_width n = column (max (min n 40) 12 + 1) + 200

-- the legend is below the last strip: 16 items, each 136 pixels wide and 24 high
abbrev pub items_abreast : ℕ → ℕ
items_abreast n = (paper_width n - 16) / 136

abbrev pub legend_top : ℕ → ℕ → ℕ
legend_top services n = strip_top services (strip_count n)

abbrev pub paper_height : ℕ → ℕ → ℕ
paper_height services n = legend_top services n + 12 + 24 * ((items_abreast n + 15) / items_abreast n)

-- an arrow ends 4 pixels before the middle of its row. If it begins there too, it goes 4 below
abbrev pub toward : ℕ → ℕ → ℕ
toward from to = if nat_lt from to then to - 4 else to + 4
