-- The sources of the programs of which there are instances.
use Rattle.std.specs.Prelude.{ℕ, List, codes}

-- Two threads write a global, each with the mutex that its mode names. Where the second has begun to wait for the mutex
-- neither goes on: the first holds it, and waits for the second.
abbrev pub locking_source : List ℕ
locking_source = codes "mutex m;\nint locked(m) x;\n\nvoid worker(int n) {\n    lock(&m);\n    x = 2;\n    unlock(&m);\n}\n\nint main(void) {\n    lock(&m);\n    x = 1;\n    join(spawn(worker, 2));\n    unlock(&m);\n    return 0;\n}\n"

-- One thread frees an object to which another of its variables refers.
abbrev pub sharing_source : List ℕ
sharing_source = codes "int main(void) {\n    int private *p;\n    int private *q;\n    p = malloc(sizeof(int));\n    q = p;\n    free(p);\n    return 0;\n}\n"
