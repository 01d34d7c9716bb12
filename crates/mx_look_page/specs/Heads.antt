-- THE LINE FOR THE RUN, above the rows, and the last line (our own).
use Rattle.std.specs.Prelude.{ℕ, List, [], ◌++◌, codes, Option, Some, None}
use Rattle.std.specs.List.{flat_map}
use Rattle.std.specs.Fmt.{decimal}
use Rattle.mx_print_report.specs.Words.{name_bytes}
use Rattle.mx_look.specs.Trace.{of_slots}
use Rattle.mx_machine.specs.Service.{Service}
use Rattle.mx_proc.specs.declared.process.Masks.{Masks}
use Rattle.mx_proc.specs.declared.process.Terms.{Terms}
use Rattle.mx_look_page.specs.declared.head.RunTerms.{RunTerms}
use Rattle.mx_look_page.specs.declared.shown.SlotState.{SlotState}
use Rattle.mx_look_page.specs.Json.{text, list_of, member}
use Rattle.mx_look_page.specs.Rows.{state_items, order_items}
use Rattle.mx_look_page.specs.Shown.{ShownWorld, state_in}

-- What a page says of a run as a whole: the names of the files, how many records are above the first row, and numbers
-- of the configuration.
pub record Run : Type 0 where
  pub config : List ℕ
  pub history : List ℕ
  pub first : ℕ
  pub cpus : ℕ
  pub others : ℕ
  pub log : ℕ
  pub rules : ℕ

abbrev pub run_of : RunTerms → Run
run_of r = record {
  config = r.config.now;
  history = r.history.now;
  first = r.first;
  cpus = r.cpus;
  others = r.others;
  log = r.log;
  rules = r.rules;
}

abbrev pub number_part : List ℕ → ℕ → List ℕ
number_part name n = member name ++ decimal n

abbrev pub text_part : List ℕ → List ℕ → List ℕ
text_part name bytes = member name ++ text bytes

unfoldable pub names_part : List ℕ → List ℕ → List ℕ
names_part config history =
    codes "{\"format\":1" ++ text_part (codes "config") config ++ text_part (codes "history") history

unfoldable pub machine_part : Run → List ℕ
machine_part r =
    number_part (codes "first") r.first ++ number_part (codes "cpus") r.cpus ++ number_part (codes "others") r.others
    ++ number_part (codes "log") r.log ++ number_part (codes "rules") r.rules

unfoldable pub masks_part : Masks → List ℕ
masks_part m =
    number_part (codes "traps") m.traps ++ number_part (codes "send") m.sends ++ number_part (codes "calls") m.calls

unfoldable pub schedule_part : Terms → List ℕ
schedule_part t =
    number_part (codes "level") t.level ++ number_part (codes "best") t.best
    ++ number_part (codes "quantum") t.quantum ++ number_part (codes "restarts") t.restarts

-- a service with its terms
unfoldable pub service_text : Service → List ℕ
service_text v =
    codes ",{\"name\":" ++ text (name_bytes v.name.bytes) ++ masks_part v.terms.masks
    ++ schedule_part v.terms ++ codes "}"

abbrev pub services_items : List Service → List ℕ
services_items vs = flat_map service_text vs

abbrev pub start_item : ℕ → Option SlotState → List ℕ
start_item s None = []
start_item s (Some v) = state_items s v ++ codes "]"

unfoldable pub start_items : ShownWorld → List ℕ
start_items w = of_slots (λ s. start_item s (state_in w s))

abbrev pub order_member : List ℕ → List ℕ → List ℕ
order_member name slots = member name ++ list_of (order_items slots)

-- what is shown before the first row
unfoldable pub shown_part : ShownWorld → List ℕ
shown_part w =
    order_member (codes "queue") w.ready ++ order_member (codes "wait") w.waiting
    ++ member (codes "start") ++ list_of (start_items w)

unfoldable pub head_text : Run → List Service → ShownWorld → List ℕ
head_text r vs w =
    names_part r.config r.history ++ machine_part r
    ++ member (codes "services") ++ list_of (services_items vs) ++ shown_part w ++ codes "}\n"

-- the line of the record that is refused, if one is
abbrev pub refused_part : Option (List ℕ) → List ℕ
refused_part None = []
refused_part (Some line) = member (codes "refused") ++ text line

-- how many rows there are
unfoldable pub tail_text : ℕ → Option (List ℕ) → List ℕ
tail_text n refused = codes "{\"records\":" ++ decimal n ++ refused_part refused ++ codes "}\n"
