-- What a second line has after what stands in place of what was wanted (our own words).
use Rattle.std.specs.Prelude.{ℕ, List, [], ◌++◌, codes}
use Rattle.mx_insn_words.specs.Numbers.{hexadecimal}
use Rattle.mx_app_explain.specs.declared.hint.Hint.{Hint}
use Rattle.mx_app_explain.specs.declared.hint.Hint.TheVariants as hints

abbrev pub words_told : List ℕ → List ℕ
words_told words = codes "; " ++ words

abbrev pub mask_told : List ℕ → ℕ → List ℕ
mask_told names mask = codes "; " ++ names ++ codes " is " ++ hexadecimal mask

abbrev pub folder_told : List ℕ → List ℕ
folder_told folder =
    codes "; its name is seen from the folder that mx is called in, and CONFIG is in " ++ folder ++ codes ": cd "
    ++ folder

abbrev pub hint_told : Hint → List ℕ
hint_told hints.Nothing = []
hint_told (hints.Words words) = words_told words.now
hint_told (hints.Mask names mask) = mask_told names.now mask
hint_told (hints.Folder folder) = folder_told folder.now
