-- Numbers of bytes, as a command line tells them. All of this is our own; the suffixes are those of GNU's programs, with powers of 1,024.
use Rattle.std.specs.Prelude.{ℕ, ◌||◌, ◌*◌, ◌^◌, List, drop, Option, Some, None, if◌then◌else◌, codes}
use Rattle.std.specs.Char.{is_ascii_digit}
use Rattle.std.specs.List.{prefix_len, take_while}
use Rattle.std.specs.Str.{bytes_eq}
use Rattle.script_io.specs.Digits.{number_of}

-- how many bytes one of a suffix is
abbrev pub unit_of : List ℕ → Option ℕ
unit_of suffix =
    if bytes_eq suffix (codes "") then Some 1 else
    (if bytes_eq suffix (codes "k") || bytes_eq suffix (codes "K") || bytes_eq suffix (codes "KiB") then Some (2 ^ 10) else
    (if bytes_eq suffix (codes "m") || bytes_eq suffix (codes "M") || bytes_eq suffix (codes "MiB") then Some (2 ^ 20) else
    (if bytes_eq suffix (codes "g") || bytes_eq suffix (codes "G") || bytes_eq suffix (codes "GiB") then Some (2 ^ 30) else
    (if bytes_eq suffix (codes "t") || bytes_eq suffix (codes "T") || bytes_eq suffix (codes "TiB") then Some (2 ^ 40) else None))))

-- so many of a unit, if both are told
abbrev pub times : Option ℕ → Option ℕ → Option ℕ
times (Some number) (Some unit) = Some (number * unit)
times number unit = None

-- the number of bytes that a text tells: 1 to 19 digits, and a suffix or none
abbrev pub bytes_told : List ℕ → Option ℕ
bytes_told text = times (number_of 19 (take_while is_ascii_digit text)) (unit_of (drop (prefix_len is_ascii_digit text) text))
