-- How the program ends: its exit status, and its line on standard error.
use Rattle.std.specs.Prelude.{ℕ, List, [], ◌++◌, codes, decimal}
use Rattle.sdb_model.specs.Texts.{answer_text_of, key_text_of}
use Rattle.sdb_model.specs.declared.script.Which.{Which}
use Rattle.sdb_model.specs.declared.script.Which.TheVariants as limited
use Rattle.sdb_app.specs.declared.status.Status.{Status}
use Rattle.sdb_app.specs.declared.status.Status.TheVariants as status

abbrev pub code_of : Status → ℕ
code_of status.Done = 0
code_of status.Usage = 2
code_of (status.BadInput n fault) = 3
code_of status.ReadFault = 4
code_of status.WriteFault = 5
code_of status.StoreFault = 6
code_of status.NoMemory = 7
code_of (status.NotEmpty key) = 8
code_of (status.BadStore key) = 9
code_of (status.Limit n which) = 10
code_of status.NoTable = 11
code_of (status.NotCommitted a) = 12

-- the name of a limited quantity
abbrev pub which_name : Which → List ℕ
which_name limited.LineBytes = codes "LineBytes"
which_name limited.InputBytes = codes "InputBytes"
which_name limited.Clients = codes "Clients"
which_name limited.Statements = codes "Statements"
which_name limited.Moves = codes "Moves"

abbrev pub line_of : Status → List ℕ
line_of status.Done = []
line_of status.Usage = codes "usage: scalardb replay | sql | schema [NS=STORE]... | load NS.TABLE insert|update|upsert N | export NS.TABLE | bench N | retire FROM TO | alter NS.TABLE COLUMN KIND"
line_of (status.BadInput n fault) = codes "bad input at " ++ decimal n
line_of status.ReadFault = codes "read fault"
line_of status.WriteFault = codes "write fault"
line_of status.StoreFault = codes "store fault"
line_of status.NoMemory = codes "out of memory"
line_of (status.NotEmpty key) = codes "not empty: " ++ key_text_of key
line_of (status.BadStore key) = codes "bad record: " ++ key_text_of key
line_of (status.Limit n which) = codes "limit at " ++ decimal n ++ codes ": " ++ which_name which
line_of status.NoTable = codes "no such table"
line_of (status.NotCommitted a) = codes "not committed: " ++ answer_text_of a
