-- For private contracts: how the logic stores a list of calls.
use Rattle.std.specs.Prelude.{◌≡◌, ℕ, ◌==◌, cond, List, [], Ok, Err, refl}
use Rattle.std.specs.Coded.{Coded, code_by, coded×, coded_ℕ, coded_list}
use Rattle.ci_io.specs.declared.shelves.ShelfErr.TheVariants.{Absent, Fault, TooLarge, NoMemory}
use Rattle.ci_io.specs.declared.sinks.SinkErr.TheVariants as sink
use Rattle.ci_io.specs.CallLists.{Call, read, write, put}

-- the number of a kind of call with its answer, and what it was given and gave
abbrev Parts : Type 0
Parts = ℕ × (List ℕ × (ℕ × List ℕ))

abbrev to_parts : Call → Parts
to_parts (read name limit (Ok bytes)) = (0, (name, (limit, bytes)))
to_parts (read name limit (Err Absent)) = (1, (name, (limit, [])))
to_parts (read name limit (Err Fault)) = (2, (name, (limit, [])))
to_parts (read name limit (Err TooLarge)) = (3, (name, (limit, [])))
to_parts (read name limit (Err NoMemory)) = (4, (name, (limit, [])))
to_parts (write name bytes (Ok done)) = (5, (name, (0, bytes)))
to_parts (write name bytes (Err Absent)) = (6, (name, (0, bytes)))
to_parts (write name bytes (Err Fault)) = (7, (name, (0, bytes)))
to_parts (write name bytes (Err TooLarge)) = (8, (name, (0, bytes)))
to_parts (write name bytes (Err NoMemory)) = (9, (name, (0, bytes)))
to_parts (put bytes (Ok done)) = (10, ([], (0, bytes)))
to_parts (put bytes (Err sink.Fault)) = (11, ([], (0, bytes)))
to_parts (put bytes (Err sink.NoMemory)) = (12, ([], (0, bytes)))

abbrev of_parts : Parts → Call
of_parts p =
    cond (p.0 == 0) (read p.1.0 p.1.1.0 (Ok p.1.1.1))
    (cond (p.0 == 1) (read p.1.0 p.1.1.0 (Err Absent))
    (cond (p.0 == 2) (read p.1.0 p.1.1.0 (Err Fault))
    (cond (p.0 == 3) (read p.1.0 p.1.1.0 (Err TooLarge))
    (cond (p.0 == 4) (read p.1.0 p.1.1.0 (Err NoMemory))
    (cond (p.0 == 5) (write p.1.0 p.1.1.1 (Ok tt))
    (cond (p.0 == 6) (write p.1.0 p.1.1.1 (Err Absent))
    (cond (p.0 == 7) (write p.1.0 p.1.1.1 (Err Fault))
    (cond (p.0 == 8) (write p.1.0 p.1.1.1 (Err TooLarge))
    (cond (p.0 == 9) (write p.1.0 p.1.1.1 (Err NoMemory))
    (cond (p.0 == 10) (put p.1.1.1 (Ok tt))
    (cond (p.0 == 11) (put p.1.1.1 (Err sink.Fault))
    (put p.1.1.1 (Err sink.NoMemory)))))))))))))

pub of_parts-to_parts : (c : Call) → of_parts (to_parts c) ≡ c
of_parts-to_parts (read name limit (Ok bytes)) = refl
of_parts-to_parts (read name limit (Err Absent)) = refl
of_parts-to_parts (read name limit (Err Fault)) = refl
of_parts-to_parts (read name limit (Err TooLarge)) = refl
of_parts-to_parts (read name limit (Err NoMemory)) = refl
of_parts-to_parts (write name bytes (Ok done)) = refl
of_parts-to_parts (write name bytes (Err Absent)) = refl
of_parts-to_parts (write name bytes (Err Fault)) = refl
of_parts-to_parts (write name bytes (Err TooLarge)) = refl
of_parts-to_parts (write name bytes (Err NoMemory)) = refl
of_parts-to_parts (put bytes (Ok done)) = refl
of_parts-to_parts (put bytes (Err sink.Fault)) = refl
of_parts-to_parts (put bytes (Err sink.NoMemory)) = refl

abbrev pub calls_code : Coded (List Call)
calls_code =
    coded_list
    (code_by Parts (coded× coded_ℕ (coded× (coded_list coded_ℕ) (coded× coded_ℕ (coded_list coded_ℕ))))
    to_parts of_parts of_parts-to_parts)
