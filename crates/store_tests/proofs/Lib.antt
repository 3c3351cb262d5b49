mod LiveRows
mod Rebinding
