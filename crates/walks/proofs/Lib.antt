-- The kit's names that a walk uses; what it needs beside the kit's steps; data and parameters; calls, entry and end;
-- slices that are lent again; the first elements of an array, lent apart from the others.
pub mod Kit
pub mod Walking
pub mod Data
pub mod Calling
pub mod Relent
pub mod Prefix
