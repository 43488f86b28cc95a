-- Which words are which command (own rules).
use Rattle.std.specs.Prelude.{ℕ, ◌&&◌, ◌==◌, not, nat_le, Bool, true, false, List, [], ◌∷◌, length, take, drop, ⊤, Option, Some, None, option_map, option_and_then, codes, if◌then◌else◌}
use Rattle.std.specs.List.{list_all}
use Rattle.std.specs.Option.{option_map_or}
use Rattle.std.specs.Str.{bytes_eq}
use Rattle.turk_base.specs.declared.Settings.{Settings}
use Rattle.command_words.specs.Numbers.{number_in}
use Rattle.command_words.specs.Options.{options_in, IsFuel}
use Rattle.command_words.specs.declared.Command.{Command}
use Rattle.command_words.specs.declared.Command.TheVariants.{Plain, Run, Play, Show, Make}

-- a word in a file's place isn't empty and doesn't begin with `-`
abbrev pub is_file : List ℕ → Bool
is_file [] = false
is_file (b ∷ bs) = not (b == 45)

-- the words behind so many files
abbrev pub after_files : ℕ → List (List ℕ) → Option (List (List ℕ))
after_files n ws = if nat_le n (length ws) && list_all is_file (take n ws) then Some (drop n ws) else None

abbrev pub with_options : (Settings → Command) → List (List ℕ) → Option Command
with_options command ws = option_map command (options_in ws)

-- ---- by the command's own word, from the words behind it

abbrev pub plain_of : List (List ℕ) → Option Command
plain_of ws = option_and_then (λ behind. option_map_or (with_options (Plain true)) (after_files 1 behind) (with_options (Plain false) behind)) (after_files 1 ws)

abbrev pub run_of : List (List ℕ) → Option Command
run_of ws = option_and_then (with_options Run) (after_files 4 ws)

abbrev pub play_of : List (List ℕ) → Option Command
play_of ws = option_and_then (with_options Play) (after_files 2 ws)

abbrev pub alone : Command → List (List ℕ) → Option Command
alone command [] = Some command
alone command (w ∷ ws) = None

abbrev pub show_of : List (List ℕ) → Option Command
show_of ws = option_and_then (alone Show) (after_files 3 ws)

abbrev pub make_of : List (List ℕ) → Option Command
make_of [] = None
make_of (w ∷ []) = option_map Make (number_in 1 100 w)
make_of (w ∷ v ∷ ws) = None

-- the command that words are, or none
abbrev pub command_of : List (List ℕ) → Option Command
command_of [] = None
command_of (w ∷ ws) =
    if bytes_eq w (codes "plain") then plain_of ws
    else (if bytes_eq w (codes "run") then run_of ws
    else (if bytes_eq w (codes "play") then play_of ws
    else (if bytes_eq w (codes "show") then show_of ws
    else (if bytes_eq w (codes "make") then make_of ws
    else None))))

-- the fuel of a command is within the limits
abbrev pub IsWithin : Command → Type 0
IsWithin (Plain replies s) = IsFuel s.fuel
IsWithin (Run s) = IsFuel s.fuel
IsWithin (Play s) = IsFuel s.fuel
IsWithin Show = ⊤
IsWithin (Make n) = ⊤
