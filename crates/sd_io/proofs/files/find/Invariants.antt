use Rattle.std.proofs.Common.{◌≡◌, map, drop}
use Rattle.sd_io.specs.Files.{content_of, plain_file}
use Rattle.sd_io.proofs.files.find.Given as goal

-- no file so far has the name
abbrev pub invariant-loop-file : goal.invariant-loop-file
invariant-loop-file l =
    content_of (map plain_file l.files) l.name
    ≡ content_of (map plain_file (drop l.file-index l.files)) l.name
