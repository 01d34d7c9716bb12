-- THE PAGE OF A HISTORY (our own): the fixed part, and between its halves the data.
use Rattle.std.specs.Prelude.{◌⊎◌, ℕ, ◌+◌, ◌-◌, nat_lt, if◌then◌else◌, List, [], ◌∷◌, ◌++◌, length, take, drop, Option, Some, None}
use Rattle.mx_app_step.specs.Config.{Config}
use Rattle.mx_app_step.specs.Failure.{PrintsFront}
use Rattle.mx_app_step.specs.Log.{lines_above}
use Rattle.mx_app_step.specs.Records.{IsRefusedAt, refused_record_line}
use Rattle.mx_app_step.specs.Traces.{transition_of}
use Rattle.mx_app_step.specs.declared.records.Replayed.{Replayed}
use Rattle.mx_app_step.specs.declared.records.Replayed.TheVariants as replayed
use Rattle.mx_machine.specs.declared.events.Refusal.{Refusal}
use Rattle.mx_machine.specs.declared.history.Record.{Record}
use Rattle.mx_machine.specs.History.{AreAccepted, world_after_events, events_of, events_of_history}
use Rattle.mx_machine.specs.World.{World}
use Rattle.mx_proc.specs.declared.windows.Rules.{Rules}
use Rattle.mx_proc.specs.declared.windows.Rules.TheVariants.{Lenient, Strict}
use Rattle.mx_look.specs.Glances.{glance_of}
use Rattle.mx_look_page.specs.Heads.{Run, head_text, tail_text}
use Rattle.mx_look_page.specs.Rows.{row_text, but_last}
use Rattle.mx_look_page.specs.Shown.{ShownWorld, shown_of}
use Rattle.mx_app_page.specs.declared.fixed.TheConstants.{FRONT, BACK}

-- a world as the page shows it
abbrev pub shown_in : World → ShownWorld
shown_in w = shown_of (glance_of w) w.table

-- the rows of records, of which the first has this number
abbrev pub rows_text : World → ℕ → List Record → List ℕ
rows_text w n [] = []
rows_text w n (x ∷ xs) = let v = world_after_events w (events_of x.actor x.event) in
    row_text (transition_of w n x) (shown_in w) (shown_in v) ++ rows_text v (n + 1) xs

abbrev pub rules_number : Rules → ℕ
rules_number Lenient = 1
rules_number Strict = 2

-- what the page says of the run: the names of the files, how many records are above the first row, the configuration
abbrev pub run_of_files : List ℕ → List ℕ → ℕ → Config → Run
run_of_files config history first c = record {
  config = config;
  history = history;
  first = first;
  cpus = c.cpus;
  others = c.others;
  log = c.log;
  rules = rules_number c.rules;
}

-- what stands above the rows: the fixed part, and the line for the run, which shows a world
abbrev pub front_text : Run → World → List ℕ
front_text r w = FRONT.now ++ head_text r w.services (shown_in w)

-- what stands below them, after this many
abbrev pub back_text : ℕ → Option (List ℕ) → List ℕ
back_text count refused = tail_text count refused ++ BACK.now

-- the page of records that are accepted, of which some stand above the first row, but for what stands below the rows
abbrev pub page_top : Run → World → List Record → List Record → List ℕ
page_top r w above records = let v = world_after_events w (events_of_history above) in
    front_text r v ++ rows_text v (length above + 1) records

-- THE PAGE of them; and the line of the record that is refused after them, if one is
abbrev pub page_text : Run → World → List Record → List Record → Option (List ℕ) → List ℕ
page_text r w above records refused = page_top r w above records ++ back_text (length records) refused

-- the same if this many records are to stand above the first row. If the refused one is among those, the page shows the
-- machine at boot.
abbrev pub page_from : (ℕ → Run) → ℕ → World → List Record → Option (List ℕ) → List ℕ
page_from run first w records None =
    page_text (run (length (take first records))) w (take first records) (drop first records) None
page_from run first w records (Some line) =
    if nat_lt (length records) first then page_text (run 0) w [] [] (Some line)
    else page_text (run first) w (take first records) (drop first records) (Some line)

-- the line of a refused record, without its end
abbrev pub refused_line : Rules → ℕ → Refusal → List ℕ
refused_line rules n r = but_last (refused_record_line (lines_above rules + n) r)

-- WHAT IS PRINTED of records, of which this many are to stand above the first row: their page, or that of those before
-- the first that is refused, which says in which line it is and why
abbrev pub IsPagePrinted : (ℕ → Run) → World → List Record → ℕ → Replayed → (List ℕ → Type 0) → Type 0
IsPagePrinted run w records first replayed.Whole Prints =
    AreAccepted w (events_of_history records) × Prints (page_from run first w records None)
IsPagePrinted run w records first replayed.Refused Prints =
    (n : ℕ) × (r : Refusal) × IsRefusedAt w records n r
    × Prints (page_from run first w (take (n - 1) records) (Some (refused_line w.table.rules n r)))

-- of the page of some first records, of which none is refused, a front is printed, that ends above the last line
abbrev pub IsTopBegun : (ℕ → Run) → World → List Record → ℕ → (List ℕ → Type 0) → Type 0
IsTopBegun run w records first Prints =
    (n : ℕ) × (let above = take first records in let rows = take n (drop first records) in
    AreAccepted w (events_of_history (above ++ rows)) × PrintsFront Prints (page_top (run (length above)) w above rows))

-- WHAT IS PRINTED BEFORE A FAILURE: nothing; or a front that ends above the last line, or one of the whole page
abbrev pub IsPageBegun : (ℕ → Run) → World → List Record → ℕ → (List ℕ → Type 0) → Type 0
IsPageBegun run w records first Prints =
    Prints [] ⊎ (IsTopBegun run w records first Prints
    ⊎ ((how : Replayed) × IsPagePrinted run w records first how (PrintsFront Prints)))

-- ---- parts of it

-- the rows of records, or of so many before the first that is refused. `above` records come before the first.
abbrev pub AreRowsPrinted : World → ℕ → List Record → Option (ℕ × Refusal) → (List ℕ → Type 0) → Type 0
AreRowsPrinted w above records None Prints =
    AreAccepted w (events_of_history records) × Prints (rows_text w (above + 1) records)
AreRowsPrinted w above records (Some p) Prints =
    IsRefusedAt w records (p.0 + 1) p.1 × Prints (rows_text w (above + 1) (take p.0 records))

-- a front of the rows of some first records is printed, of which none is refused
abbrev pub AreRowsBegun : World → ℕ → List Record → (List ℕ → Type 0) → Type 0
AreRowsBegun w above records Prints =
    (n : ℕ) × AreAccepted w (events_of_history (take n records))
    × PrintsFront Prints (rows_text w (above + 1) (take n records))

-- the page from a world on, above whose records stand this many; or that of those before the first that is refused
abbrev pub IsMadePrinted : Rules → Run → World → ℕ → List Record → Replayed → (List ℕ → Type 0) → Type 0
IsMadePrinted rules r w above records replayed.Whole Prints =
    AreAccepted w (events_of_history records)
    × Prints (front_text r w ++ rows_text w (above + 1) records ++ back_text (length records) None)
IsMadePrinted rules r w above records replayed.Refused Prints =
    (n : ℕ) × (q : Refusal) × IsRefusedAt w records (n + 1) q
    × Prints (front_text r w ++ rows_text w (above + 1) (take n records)
    ++ back_text n (Some (refused_line rules (above + n + 1) q)))

-- a front of it
abbrev pub IsMadeBegun : Rules → Run → World → ℕ → List Record → (List ℕ → Type 0) → Type 0
IsMadeBegun rules r w above records Prints =
    ((n : ℕ) × AreAccepted w (events_of_history (take n records))
    × PrintsFront Prints (front_text r w ++ rows_text w (above + 1) (take n records)))
    ⊎ ((how : Replayed) × IsMadePrinted rules r w above records how (PrintsFront Prints))
